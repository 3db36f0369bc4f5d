use Rattle.object.proofs.Selecting.{one_more}
use Rattle.object.proofs.selected.collect.Goals as goal

pub loop-entity-preserved : goal.loop-entity-preserved
loop-entity-preserved g c = λ a b.
    one_more (a, b) c.args.shape _ _ _ _ _ _ (g.met.C.Cursor.laws.steps _ _ _ c.in-Some.ensures.steps) (c.insert_all.ensures a b) (c.loop-entity.invariant a b)
