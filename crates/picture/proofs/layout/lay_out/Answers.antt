use Rattle.std.proofs.Common.{◌≡◌, ◌+◌, ◌*◌, length, drop, arith, subst, sym}
use Rattle.std.proofs.lemmas.Grind.{common_steps}
use Rattle.std.proofs.lemmas.List.{get_or_append_left, length-take-le}
use Rattle.picture.specs.Pictures.{width_of, height_of, Shows}
use Rattle.picture.proofs.Layouts.{whole_picture}
use Rattle.picture.proofs.layout.lay_out.Goals as goal

pub returns : goal.returns
returns c =
    let s = c.args.shape in
    let page = c.args.page.now in
    let drawn = c.loop-k.byte-items in
    let n = (2 * c.rows.result + 1) * c.width.result in
    let size : n ≡ height_of s * width_of s = cc in
    let long : length drawn ≡ n = omega (arith, length-take-le n page (omega arith)) in (
      size,
      omega arith,
      grind (arith, common_steps),
      whole_picture s _ (λ k h. subst (Shows s k) (sym (get_or_append_left drawn (drop n page) 0 k (omega (arith, size)))) (c.loop-k.invariant k (omega (arith, size)))),
      λ k h. grind (arith, common_steps),
    )
