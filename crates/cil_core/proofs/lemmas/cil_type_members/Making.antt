-- New objects of members, one more at a time.
use Rattle.std.proofs.Common.{◌≡◌, ℕ, suc, ◌+◌, ◌<◌, List, [], ◌∷◌, ◌++◌, length, drop, get_or, sym, ap, ◌∙◌, arith}
use Rattle.std.proofs.Math.Seq.{drop-cons}
use Rattle.il_base.specs.declared.cil_values.state.State.{State}
use Rattle.il_base.specs.declared.cil_values.value.Value.{Value}
use Rattle.il_base.specs.declared.cil_values.value.Value.TheVariants as value
use Rattle.rules.specs.declared.type_rules.found_member.FoundMember.{FoundMember}
use Rattle.rules.specs.step_rules.Next.{Next}
use Rattle.rules.specs.step_rules.Words.{made}
use Rattle.rules.specs.step_rules.CoreSearches.{member_object, all_made}

rest_of : (ms : List FoundMember) (i : ℕ) (m : FoundMember) → i < length ms → m ≡ get_or ms i m → drop i ms ≡ m ∷ drop (i + 1) ms
rest_of ms i m lt is =
    let z : suc i ≡ i + 1 = omega arith in
    drop-cons ms i m lt ∙ ap (λ (x : FoundMember). x ∷ drop (suc i) ms) (sym is) ∙ ap (λ (n : ℕ). m ∷ drop n ms) z

pub more_made : (ms : List FoundMember) (i : ℕ) (m : FoundMember) (vs ws : List Value) (s t : State) (a : ℕ) (f : List Value → State → Next) → i < length ms → m ≡ get_or ms i m
    → ((g : ℕ → State → Next) → made (member_object m) s g ≡ g a t) → ws ≡ vs ++ value.Object a ∷ [] → all_made (drop (i + 1) ms) ws t f ≡ all_made (drop i ms) vs s f
more_made ms i m vs ws s t a f lt is h e =
    ap (λ (xs : List Value). all_made (drop (i + 1) ms) xs t f) e
    ∙ sym (h (λ b u. all_made (drop (i + 1) ms) (vs ++ value.Object b ∷ []) u f))
    ∙ ap (λ (xs : List FoundMember). all_made xs vs s f) (sym (rest_of ms i m lt is))
