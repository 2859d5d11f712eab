-- The inputs of a world are the first of its assemblies.
use Rattle.std.proofs.Common.{◌≡◌, ℕ, ◌≤◌, List, [], ◌∷◌, ◌++◌, length, take, Err, refl, ap, ◌∙◌, arith}
use Rattle.std.proofs.lemmas.List.{length-append}
use Rattle.il_base.specs.declared.world_model.record.AsmRec.{AsmRec}
use Rattle.il_base.specs.core_table.Record.{core_record}
use Rattle.rules.specs.link_rules.CoreNames.{missing_names, core_with}
use Rattle.rules.specs.declared.link_rules.link_error.LinkError.{LinkError}
use Rattle.rules.specs.declared.link_rules.link_error.LinkError.TheVariants as fault
use Rattle.rules.specs.link_rules.Faults.{link_fault}
use Rattle.rules.specs.link_rules.Linked.{assemblies, link_fault_of, Links}
use Rattle.link_faults.specs.Answer.{Answers}

first_of : {A : Type 0} (xs ys : List A) → take (length xs) (xs ++ ys) ≡ xs
first_of [] ys = refl
first_of (x ∷ xs) ys = ap (λ zs. x ∷ zs) (first_of xs ys)

pub inputs_first : (recs : List AsmRec) → take (length recs) (assemblies recs) ≡ recs
unfolding assemblies
inputs_first recs = first_of recs (core_with core_record (missing_names (recs ++ core_record ∷ [])) ∷ [])

pub inputs_within : (recs : List AsmRec) → length recs ≤ length (assemblies recs)
unfolding assemblies
inputs_within recs = rw (length-append recs (core_with core_record (missing_names (recs ++ core_record ∷ [])) ∷ [])) (omega arith)

-- the first fault, as it is found among all assemblies
pub faults : (recs all : List AsmRec) (n : ℕ) → all ≡ assemblies recs → n ≡ length recs → link_fault all (take n all) ≡ link_fault_of recs
faults recs all n a e =
    let same : link_fault all (take n all) ≡ link_fault (assemblies recs) (take (length recs) (assemblies recs)) = λ i. link_fault (a i) (take (e i) (a i)) in
    same ∙ ap (λ (xs : List AsmRec). link_fault (assemblies recs) xs) (inputs_first recs)

pub within : (recs all : List AsmRec) (n : ℕ) → all ≡ assemblies recs → n ≡ length recs → n ≤ length all
within recs all n a e = rw (a, e) (inputs_within recs)

pub refused : (recs : List AsmRec) (found : LinkError) → Answers (link_fault_of recs) (Err found) → Links recs (Err found)
refused recs (fault.Bad file why token) h = h
refused recs fault.NoMemory h = h
