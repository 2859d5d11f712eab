-- The members that kinds name, in two parts.
use Rattle.std.proofs.Common.{◌≡◌, ℕ, ◌<◌, ◌≤◌, List, [], ◌∷◌, ◌++◌, length, map, refl, sym, ap, ◌∙◌, append_assoc, arith}
use Rattle.std.proofs.lemmas.List.{append-nil}
use Rattle.il_base.specs.declared.world_model.record.AsmRec.{AsmRec}
use Rattle.rules.specs.declared.link_rules.row_at.RowAt.{RowAt}
use Rattle.rules.specs.mark_rules.Facts.{Fact}
use Rattle.il_base.specs.world_model.Worlds.{type_id}
use Rattle.rules.specs.mark_rules.Facts.Fact.{marked, instantiated}
use Rattle.rules.specs.mark_rules.Members.{constructors_by, members_by}
use Rattle.rules.specs.mark_rules.Dependencies.{members_of_kinds}
use Rattle.mark_dependencies.specs.Names.{made_by}

by_constructors : (recs : List AsmRec) (kinds : ℕ) (t : RowAt) (cs : List RowAt) → constructors_by recs kinds t ≡ cs → made_by recs t cs ++ map marked (members_by recs kinds t) ≡ members_of_kinds recs kinds t
by_constructors recs kinds t [] e = rw e refl
by_constructors recs kinds t (c ∷ cs) e = rw e refl

pub of_kinds : (recs : List AsmRec) (kinds : ℕ) (t : RowAt) (out : List Fact) → (out ++ made_by recs t (constructors_by recs kinds t)) ++ map marked (members_by recs kinds t) ≡ out ++ members_of_kinds recs kinds t
of_kinds recs kinds t out =
    append_assoc out (made_by recs t (constructors_by recs kinds t)) (map marked (members_by recs kinds t))
    ∙ ap (λ (fs : List Fact). out ++ fs) (by_constructors recs kinds t (constructors_by recs kinds t) refl)

pub made_none : (recs : List AsmRec) (t : RowAt) (cs : List RowAt) (old : List Fact) → length cs < 1 → old ≡ old ++ made_by recs t cs
made_none recs t [] old b = sym (append-nil old)
made_none recs t (c ∷ cs) old b = absurd (omega arith)

pub made_some : (recs : List AsmRec) (t : RowAt) (cs : List RowAt) (put old : List Fact) → 1 ≤ length cs → put ≡ old ++ instantiated (type_id recs t.asm t.row) ∷ [] → put ≡ old ++ made_by recs t cs
made_some recs t [] put old b p = absurd (omega arith)
made_some recs t (c ∷ cs) put old b p = p
