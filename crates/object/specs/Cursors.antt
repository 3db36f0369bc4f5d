-- Cursors over entities.
use Rattle.std.specs.Prelude.{List, Option, ⊤}
use Rattle.std.specs.Iterator.{Count, IsFinite, YieldsFirst, item_count}
use Rattle.grid.specs.declared.entity.Entity.{Entity}

-- it may always be asked, each call takes the front of the list, and it ends
pub record CursorLaws {S : Type 0} (can : S → Type 0) (gives : S → Option Entity → S → Type 0) (count : S → Count) (to_come : S → List Entity) : Type 0 where
  pub ready : (s : S) → can s
  pub steps : (s : S) (r : Option Entity) (t : S) → gives s r t → YieldsFirst to_come s r t
  pub ends : (s : S) → IsFinite (count s)

-- an iterator whose `next_gives` and `remaining` speak of the list that it has left
pub gives_its_list : {S : Type 0} (to_come : S → List Entity) → CursorLaws (λ _. ⊤) (YieldsFirst to_come) (item_count to_come) to_come
gives_its_list to_come = record { ready = λ _. tt; steps = λ s r t h. h; ends = λ _. tt }
