use Rattle.std.proofs.Common.{◌≡◌, ℕ, List, [], ◌∷◌, ◌++◌, ◌+◌, ◌-◌, ◌/◌, ◌%◌, refl, sym, ap, ◌∙◌, append_assoc, subst, arith}
use lib.Utf8.{scalar_cases}
use Rattle.descriptor_texts.specs.name_texts.Spelling.{Spell}
use Rattle.descriptor_texts.proofs.lemmas.name_texts.Spelled.{one_more, short_one, long_one}
use Rattle.descriptor_texts.proofs.name_texts.push_char.Goals as goal

pub returns-then-code-lt65536 : goal.returns-then-code-lt65536
returns-then-code-lt65536 c cs s =
    subst (λ (us : List ℕ). Spell us (cs ++ c.args.c ∷ [])) (sym c.in_ok-push.ensures.ok)
    (one_more c.args.units.now (c.args.c ∷ []) cs c.args.c (short_one c.args.c (scalar_cases c.args.c c.ranges.c.0) (omega arith)) s)

pub returns : goal.returns
returns c cs s =
    let o : ℕ = c.args.c - 0x1_0000 in
    let all : c.push-3.new.self ≡ c.args.units.now ++ ((0xD800 + o / 0x400) ∷ (0xDC00 + o % 0x400) ∷ []) =
    c.in_ok-push-3.ensures.ok ∙ ap (λ (us : List ℕ). us ++ (0xDC00 + o % 0x400) ∷ []) c.in_ok-push-2.ensures.ok ∙ append_assoc c.args.units.now ((0xD800 + o / 0x400) ∷ []) ((0xDC00 + o % 0x400) ∷ []) in
    subst (λ (us : List ℕ). Spell us (cs ++ c.args.c ∷ [])) (sym all)
    (one_more c.args.units.now ((0xD800 + o / 0x400) ∷ (0xDC00 + o % 0x400) ∷ []) cs c.args.c (long_one c.args.c o (scalar_cases c.args.c c.ranges.c.0) (omega arith) refl) s)
