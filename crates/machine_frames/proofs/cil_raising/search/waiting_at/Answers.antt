use Rattle.std.proofs.Common.{◌≡◌, ◌<◌, ◌+◌, ◌-◌, List, length, reverse, Some, refl, sym, subst, ap, ◌∙◌, arith}
use Rattle.std.specs.Prelude.{slice_get}
use Rattle.std.proofs.lemmas.List.{length-reverse}
use Rattle.std.proofs.lemmas.Option.{slice_get_read}
use Rattle.il_base.specs.declared.cil_values.frame.Frame.{Frame}
use Rattle.machine_frames.proofs.lemmas.cil_raising.Searching.{from_the_top}
use Rattle.machine_frames.proofs.cil_raising.search.waiting_at.Goals as goal

pub returns : goal.returns
returns c =
    let xs = c.as_slice-below.result.now in
    let x = c.index-below-at.result in
    let reversed : c.as_slice-below.result.now ≡ reverse c.args.frames.now = c.as_slice-below.ensures in
    let before : c.args.k < length (reverse c.args.frames.now) = subst (λ (ys : List Frame). c.args.k < length ys) reversed c.if-k-below.false in
    let within : c.args.k < length c.args.frames.now = omega (arith, before, length-reverse c.args.frames.now) in
    let inside : length xs - (c.args.k + 1) < length xs = omega (arith, c.if-k-below.false) in
    let read : slice_get xs (length xs - (c.args.k + 1)) ≡ Some x = slice_get_read xs (length xs) (length xs - (c.args.k + 1)) x refl inside c.index-below-at.is in
    sym read ∙ ap (λ (ys : List Frame). slice_get ys (length ys - (c.args.k + 1))) reversed ∙ from_the_top c.args.frames.now c.args.k within
