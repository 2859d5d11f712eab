-- The instruction at an offset, by where its offset stands first.
use Rattle.std.proofs.Common.{◌≡◌, ℕ, Option, Some, None, sym, ap, subst, ◌∙◌}
use Rattle.std.specs.Prelude.{slice_get}
use Rattle.il_base.specs.declared.cil_values.definition.Method.{Method}
use Rattle.il_base.specs.declared.cil_values.resolved.Instruction.{Instruction}
use Rattle.il_base.specs.declared.cil_values.resolved.Code.{Code}
use Rattle.rules.specs.step_rules.Words.{instruction_at}
use Rattle.il_base.specs.declared.first_places.places.Places.{Places}
use Rattle.il_base.specs.first_places.Places.{place_in, AreFirst}
use Rattle.il_base.proofs.lemmas.first_places.Finding.{missing, present}
use Rattle.cil_world.specs.world_methods.Places.{code_in, offsets_of, begins_at, HasPlaces}

module _ (m : Option Method) (places : Places) (at : ℕ) (code : Code) (are : HasPlaces m places) (some : Some code ≡ code_in m) where
  of_code : AreFirst (offsets_of (Some code)) places
  of_code = let P : Option Code → Type 0 = λ c. AreFirst (offsets_of c) places in subst P (sym some) are

  pub none_begins : None ≡ place_in places at → None ≡ begins_at (code_in m) at
  unfolding instruction_at
  none_begins none =
      missing (λ (i : Instruction). i.at) at code.code (place_in places at) (of_code at) none
      ∙ ap (λ (c : Option Code). begins_at c at) some

  pub one_begins : (place : ℕ) → Some place ≡ place_in places at → (found : Option Instruction) → found ≡ slice_get code.code place → found ≡ begins_at (code_in m) at
  unfolding instruction_at
  one_begins place there found is =
      present (λ (i : Instruction). i.at) at place code.code (place_in places at) found (of_code at) there is
      ∙ ap (λ (c : Option Code). begins_at c at) some
