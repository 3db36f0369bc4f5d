-- Which cells lie on the edge of a grid, and in which order.
use Rattle.std.proofs.Common.{ℕ, ◌+◌, Decides, refl, arith}
use Rattle.std.proofs.lemmas.Bool.Decides.{Decides-at, Decides-like, Decides-and, Decides-or, Decides-eqb}
use Rattle.grid.specs.declared.shape.Shape.{Shape}
use Rattle.grid.specs.declared.entity.Entity.TheVariants.{Global}
use Rattle.grid.specs.Positions.{positions_of}
use Rattle.grid.proofs.Listings.{lists}
use Rattle.object.specs.Kept.{member_kept, order_kept}
use Rattle.ranged.specs.Ranged.{is_on_edge, edge_of, OnEdge, ListsFrame}

on_edge : (s : Shape) (a b : ℕ) → Decides (is_on_edge s (a, b)) (OnEdge s a b)
on_edge s a b =
    Decides-or _ _ (Decides-or _ _ (Decides-eqb a 0) (Decides-eqb (a + 1) s.rows)) (Decides-or _ _ (Decides-eqb b 0) (Decides-eqb (b + 1) s.columns))

-- the list that means the frame is the frame's, row by row
pub lists_frame : (s : Shape) → ListsFrame s (edge_of s (positions_of s Global))
lists_frame s =
    let grid = positions_of s Global in
    let is = lists s Global in
    record {
      exactly = λ a b.
          Decides-at _ _ (member_kept (is_on_edge s) (a, b) grid)
          (Decides-like _ (λ h. (h.1.3.0, h.1.3.1, h.0))
          (λ h. (h.2, (omega (arith, h.0), omega (arith, h.1), refl, (h.0, h.1))))
          (Decides-and _ _ (on_edge s a b) (is.exactly a b)));
      ordered = order_kept (is_on_edge s) grid is.ordered;
    }
