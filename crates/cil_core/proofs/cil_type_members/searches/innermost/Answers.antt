use Rattle.std.proofs.Common.{◌≡◌, ℕ, ◌<◌, ◌+◌, ◌-◌, List, length, reverse, Some, refl, sym, subst, ap, ◌∙◌, arith}
use Rattle.std.specs.Prelude.{slice_get}
use Rattle.std.proofs.lemmas.List.{length-reverse}
use Rattle.std.proofs.lemmas.Option.{slice_get_read}
use Rattle.il_base.specs.declared.cil_values.frame.Frame.{Frame}
use Rattle.machine_frames.proofs.lemmas.cil_raising.Searching.{from_the_top}
use Rattle.cil_core.proofs.cil_type_members.searches.innermost.Goals as goal

pub returns : goal.returns
returns c =
    let xs = c.as_slice-below.result.now in
    let x = c.index-below-below.result in
    let reversed : c.as_slice-below.result.now ≡ reverse c.args.frames.now = c.as_slice-below.ensures in
    let some : 0 < length xs = omega (arith, c.if-below-eq0.false) in
    let before : 0 < length (reverse c.args.frames.now) = subst (λ (ys : List Frame). 0 < length ys) reversed some in
    let within : 0 < length c.args.frames.now = omega (arith, before, length-reverse c.args.frames.now) in
    let inside : length xs - 1 < length xs = omega (arith, c.if-below-eq0.false) in
    let read : slice_get xs (length xs - 1) ≡ Some x = slice_get_read xs (length xs) (length xs - 1) x refl inside c.index-below-below.is in
    let last : length xs - (0 + 1) ≡ length xs - 1 = omega arith in
    sym read ∙ ap (λ (n : ℕ). slice_get xs n) (sym last) ∙ ap (λ (ys : List Frame). slice_get ys (length ys - (0 + 1))) reversed ∙ from_the_top c.args.frames.now 0 within
