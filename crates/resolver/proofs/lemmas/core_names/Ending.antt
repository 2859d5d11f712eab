-- Where the search for a name ends, one assembly at a time.
use Rattle.std.proofs.Common.{◌≡◌, ℕ, suc, List, length, Option, Some, None, Bool, true, false, ◌&&◌, ◌<◌, ◌≤◌, get_or, refl, sym, ap, ◌∙◌}
use Rattle.std.specs.Prelude.{slice_get, is_some, not, ◌==◌}
use Rattle.std.specs.Option.{option_and_then}
use Rattle.std.proofs.lemmas.Option.{slice_get_past, slice_get-get_or}
use Rattle.il_base.specs.declared.world_model.record.AsmRec.{AsmRec}
use Rattle.rules.specs.link_rules.Types.{type_in, forwarded_to, ends_from, ends_at}
use Rattle.rules.specs.link_rules.CoreNames.{is_last}

and_true : (b : Bool) → (b && true) ≡ b
and_true true = refl
and_true false = refl

and_false : (b : Bool) → (b && false) ≡ false
and_false true = refl
and_false false = refl

module _ (all : List AsmRec) (namespace name : List ℕ) where
  abbrev ends : ℕ → ℕ → Option ℕ
  ends n a = ends_at all n namespace name a

  abbrev found : AsmRec → Option ℕ
  found rec = type_in rec None namespace name

  abbrev sent_to : AsmRec → Option ℕ
  sent_to rec = forwarded_to all rec namespace name

  step : (m n a : ℕ) → m ≡ suc n → ends m a ≡ option_and_then (λ (rec : AsmRec). ends_from a (ends n) (found rec) (sent_to rec)) (slice_get all a)
  unfolding ends_at
  step m n a fuel = rw fuel refl

  step_at : (m n a : ℕ) (rec : AsmRec) → m ≡ suc n → a < length all → rec ≡ get_or all a rec → is_last all (ends m a) ≡ is_last all (ends_from a (ends n) (found rec) (sent_to rec))
  step_at m n a rec fuel below is =
      ap (is_last all) (step m n a fuel ∙ ap (option_and_then (λ (r : AsmRec). ends_from a (ends n) (found r) (sent_to r))) (slice_get-get_or all a rec below ∙ ap Some (sym is)))

  pub lost : (m n a : ℕ) → m ≡ suc n → length all ≤ a → false ≡ is_last all (ends m a)
  lost m n a fuel past =
      sym (ap (is_last all) (step m n a fuel ∙ ap (option_and_then (λ (r : AsmRec). ends_from a (ends n) (found r) (sent_to r))) (slice_get_past all a past)))

  here_by : (n a : ℕ) (t : Option ℕ) → (suc a == length all && not (is_some t)) ≡ is_last all (ends_from a (ends n) t None)
  here_by n a None = and_true (suc a == length all)
  here_by n a (Some k) = and_false (suc a == length all)

  pub ends_here : (m n a : ℕ) (rec : AsmRec) → m ≡ suc n → a < length all → rec ≡ get_or all a rec → None ≡ sent_to rec → (suc a == length all && not (is_some (found rec))) ≡ is_last all (ends m a)
  ends_here m n a rec fuel below is none =
      here_by n a (found rec) ∙ ap (λ (to : Option ℕ). is_last all (ends_from a (ends n) (found rec) to)) none ∙ sym (step_at m n a rec fuel below is)

  there_by : (n a : ℕ) (t to : Option ℕ) → is_some t ≡ true → false ≡ is_last all (ends_from a (ends n) t to)
  there_by n a None to e = cc
  there_by n a (Some k) to e = refl

  pub is_there : (m n a : ℕ) (rec : AsmRec) → m ≡ suc n → a < length all → rec ≡ get_or all a rec → is_some (found rec) ≡ true → false ≡ is_last all (ends m a)
  is_there m n a rec fuel below is e = there_by n a (found rec) (sent_to rec) e ∙ sym (step_at m n a rec fuel below is)

  on_by : (n a next : ℕ) (t : Option ℕ) → is_some t ≡ false → is_last all (ends n next) ≡ is_last all (ends_from a (ends n) t (Some next))
  on_by n a next None e = refl
  on_by n a next (Some k) e = cc

  pub goes_on : (m n a next : ℕ) (rec : AsmRec) → m ≡ suc n → a < length all → rec ≡ get_or all a rec → is_some (found rec) ≡ false → Some next ≡ sent_to rec
      → is_last all (ends n next) ≡ is_last all (ends m a)
  goes_on m n a next rec fuel below is e to =
      on_by n a next (found rec) e ∙ ap (λ (o : Option ℕ). is_last all (ends_from a (ends n) (found rec) o)) to ∙ sym (step_at m n a rec fuel below is)

  pub goes_round : (m a : ℕ) → m ≡ 0 → false ≡ is_last all (ends m a)
  unfolding ends_at
  goes_round m a fuel = rw fuel refl
