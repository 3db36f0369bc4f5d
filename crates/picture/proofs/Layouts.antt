-- A picture, character by character.
use Rattle.std.proofs.Common.{ℕ, ◌+◌, ◌*◌, ◌<◌, List, get_or, sym, arith}
use Rattle.std.proofs.lemmas.Nat.{mul-add-lt, div-mul-add, mod-mul-add}
use Rattle.grid.specs.declared.place.Place.TheVariants.{Across, Down, Point}
use Rattle.grid.specs.declared.shape.Shape.{Shape}
use Rattle.picture.specs.declared.layout.Spot.{Spot}
use Rattle.picture.specs.declared.layout.Spot.TheVariants.{Mark, Cell}
use Rattle.picture.specs.Pictures.{On, line_of, column_of, width_of, height_of, Shows, Picture}

within : (shape : Shape) (s : Spot) → On shape s → (line_of s < height_of shape) × (column_of s < width_of shape)
within shape (Mark (Point r c)) on = (omega arith, omega arith)
within shape (Mark (Across r c)) on = (omega arith, omega arith)
within shape (Mark (Down r c)) on = (omega arith, omega arith)
within shape (Cell r c) on = (omega arith, omega arith)

-- a text that shows the right character everywhere is the picture
pub whole_picture : (shape : Shape) (text : List ℕ) → ((k : ℕ) → k < height_of shape * width_of shape → Shows shape k (get_or text k 0)) → Picture shape text
whole_picture shape text shown = record {
  spots = λ s on.
      let b = within shape s on in
      (shown (line_of s * width_of shape + column_of s) (omega (arith, mul-add-lt (line_of s) (width_of shape) (column_of s) (height_of shape) b.0 b.1))).spot s on
      (sym (div-mul-add (line_of s) (width_of shape) (column_of s) b.1), sym (mod-mul-add (line_of s) (width_of shape) (column_of s) b.1));
  ends = λ line below.
      let inside : 2 * shape.columns + 1 < width_of shape = omega arith in
      (shown (line * width_of shape + (2 * shape.columns + 1)) (omega (arith, mul-add-lt line (width_of shape) (2 * shape.columns + 1) (height_of shape) below inside))).end
      (mod-mul-add line (width_of shape) (2 * shape.columns + 1) inside);
}
