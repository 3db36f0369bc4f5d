-- A set that takes in the positions of one entity after another.
use Rattle.std.proofs.Common.{◌≡◌, Bool, true, false, ◌||◌, List, ◌∷◌, sym, refl, ap, ◌∙◌}
use Rattle.grid.specs.declared.shape.Shape.{Shape}
use Rattle.grid.specs.declared.entity.Entity.{Entity}
use Rattle.grid.specs.Positions.{Coordinates, positions_of, member}
use Rattle.grid.proofs.Listings.{member-append}
use Rattle.object.specs.Meanings.{positions}

or_move : (x y h : Bool) → (y || (x || h)) ≡ ((x || y) || h)
or_move true true h = refl
or_move true false h = refl
or_move false true h = refl
or_move false false h = refl

pub one_more : (p : Coordinates) (s : Shape) (e : Entity) (before after : List Entity) (held holds goal : Bool)
    → before ≡ e ∷ after
    → holds ≡ (member p (positions_of s e) || held)
    → (member p (positions s before) || held) ≡ goal
    → (member p (positions s after) || holds) ≡ goal
one_more p s e before after held holds goal step insert inv =
    ap (λ t. member p (positions s after) || t) insert
    ∙ or_move (member p (positions_of s e)) (member p (positions s after)) held
    ∙ ap (λ t. t || held) (sym (member-append p (positions_of s e) (positions s after)))
    ∙ ap (λ es. member p (positions s es) || held) (sym step)
    ∙ inv
