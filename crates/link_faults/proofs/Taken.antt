-- Names that are taken, by a test for those that were met.
use Rattle.std.proofs.Common.{◌≡◌, ℕ, suc, ◌+◌, ◌<◌, Bool, true, false, List, [], ◌∷◌, length, drop, get_or, refl, sym, ap, ◌∙◌, arith, Option, Some}
use Rattle.std.specs.Prelude.{if◌then◌else◌, ◌||◌}
use Rattle.std.specs.List.{list_any}
use Rattle.std.proofs.lemmas.Bool.Decides.{same_from_decides, Decides-like}
use Rattle.std.proofs.lemmas.Slice.Eq.{bytes_eq-Decides}
use Rattle.il_base.specs.declared.world_model.record.AsmRec.{AsmRec}
use Rattle.il_base.specs.world_model.Core.{same_name, is_core_name}
use Rattle.rules.specs.declared.link_rules.link_error.LinkError.{LinkError}
use Rattle.rules.specs.declared.link_rules.link_error.LinkError.TheVariants as fault
use Rattle.rules.specs.link_rules.Faults.{own_name, taken_from, duplicate_assembly}
use Rattle.link_faults.specs.Names.{taken_by}
use Rattle.link_faults.proofs.Walks.{next_of}

pub name_symmetric : (a b : List ℕ) → same_name a b ≡ same_name b a
name_symmetric a b = same_from_decides (same_name a b) (same_name b a) (bytes_eq-Decides a b) (Decides-like (same_name b a) sym sym (bytes_eq-Decides b a))

one_more : (b c m : Bool) → b ≡ c → (if b then true else m) ≡ (c || m)
one_more true c m e = ap (λ x. x || m) e
one_more false c m e = ap (λ x. x || m) e

taken_same : (met : List ℕ → Bool) (earlier : List (List ℕ)) (i : ℕ) (recs : List AsmRec) → ((name : List ℕ) → met name ≡ list_any (same_name name) earlier)
    → taken_by met i recs ≡ taken_from earlier i recs
taken_same met earlier i [] h = refl
taken_same met earlier i (rec ∷ recs) h = λ j.
    if is_core_name (own_name rec) || h (own_name rec) j then Some (fault.Bad i 14 0)
    else taken_same (λ name. if same_name (own_name rec) name then true else met name) (own_name rec ∷ earlier) (suc i) recs
    (λ name. one_more (same_name (own_name rec) name) (same_name name (own_name rec)) (met name) (name_symmetric (own_name rec) name)
    ∙ ap (λ b. same_name name (own_name rec) || b) (h name)) j

-- no name was met
pub taken_first : (met : List ℕ → Bool) (recs : List AsmRec) → ((name : List ℕ) → met name ≡ false) → taken_by met 0 recs ≡ duplicate_assembly recs
unfolding duplicate_assembly
taken_first met recs h = taken_same met [] 0 recs h

taken_like : (met now : List ℕ → Bool) (i : ℕ) (recs : List AsmRec) → ((name : List ℕ) → now name ≡ met name) → taken_by now i recs ≡ taken_by met i recs
taken_like met now i recs h = λ j. taken_by (λ name. h name j) i recs

-- ---- a loop over assemblies

module _ (met now : List ℕ → Bool) (recs : List AsmRec) (i : ℕ) (rec : AsmRec) (found : Option LinkError) where
  abbrev is_here : Bool
  is_here = is_core_name (own_name rec) || met (own_name rec)

  rest : i < length recs → rec ≡ get_or recs i rec → taken_by met i (drop i recs) ≡ found → taken_by met i (rec ∷ drop (i + 1) recs) ≡ found
  rest lt e h = ap (taken_by met i) (sym (next_of recs i rec lt e)) ∙ h

  pub taken_here : i < length recs → rec ≡ get_or recs i rec → is_here ≡ true → taken_by met i (drop i recs) ≡ found → Some (fault.Bad i 14 0) ≡ found
  taken_here lt e t h = sym (ap (λ (b : Bool). if b then Some (fault.Bad i 14 0) else taken_by (λ name. if same_name (own_name rec) name then true else met name) (suc i) (drop (i + 1) recs)) t) ∙ rest lt e h

  -- the name of this assembly is met from here on
  pub taken_later : i < length recs → rec ≡ get_or recs i rec → is_here ≡ false → ((name : List ℕ) → now name ≡ (if same_name (own_name rec) name then true else met name))
      → taken_by met i (drop i recs) ≡ found → taken_by now (i + 1) (drop (i + 1) recs) ≡ found
  taken_later lt e t n h =
      let z : i + 1 ≡ suc i = omega arith in
      ap (λ (k : ℕ). taken_by now k (drop (i + 1) recs)) z
      ∙ taken_like (λ name. if same_name (own_name rec) name then true else met name) now (suc i) (drop (i + 1) recs) n
      ∙ sym (ap (λ (b : Bool). if b then Some (fault.Bad i 14 0) else taken_by (λ name. if same_name (own_name rec) name then true else met name) (suc i) (drop (i + 1) recs)) t) ∙ rest lt e h
