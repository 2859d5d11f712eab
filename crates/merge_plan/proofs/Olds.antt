-- Loops over types with their full names.
use Rattle.std.proofs.Common.{◌≡◌, ℕ, zero, suc, ◌+◌, ◌<◌, ◌≤◌, List, [], ◌∷◌, ◌++◌, length, map, take, drop, get_or, sym, ap, ◌∙◌, arith, append_assoc, drop-cons}
use Rattle.std.proofs.lemmas.List.{append-nil, drop_all, take_more, map-append}
use Rattle.il_base.specs.declared.world_model.record.AsmRec.{AsmRec}
use Rattle.rules.specs.declared.link_rules.row_at.RowAt.{RowAt}
use Rattle.rules.specs.merge_rules.Names.{old_name}
use Rattle.merge_plan.specs.declared.full_names.OldName.{OldName}
use Rattle.merge_plan.specs.declared.contests.Contest.{Contest}
use Rattle.merge_plan.specs.OldNames.{types_of, AreOldNames}
use Rattle.merge_plan.specs.Contests.{contests_of, contests_from}

same_at : {A B : Type 0} (f g : A → B) (xs : List A) (i : ℕ) (x : A) → i < length xs → x ≡ get_or xs i x → map f xs ≡ map g xs → f x ≡ g x
same_at f g [] i x below is e = absurd (omega arith)
same_at f g (y ∷ ys) zero x below is e = let here : f y ≡ g y = cc in ap f is ∙ here ∙ ap g (sym is)
same_at f g (y ∷ ys) (suc i) x below is e = let rest : map f ys ≡ map g ys = cc in same_at f g ys i x (omega arith) is rest

-- the full name of one of them
pub old_at : (recs : List AsmRec) (old : List OldName) (i : ℕ) (o : OldName) → i < length old → o ≡ get_or old i o → AreOldNames recs old → o.full.items ≡ old_name recs o.typ
old_at recs old i o below is are = same_at (λ (x : OldName). x.full.items) (λ (x : OldName). old_name recs x.typ) old i o below is are.are

-- those before the next one
pub types_more : (old : List OldName) (i : ℕ) (o : OldName) → i < length old → o ≡ get_or old i o → types_of (take i old) ++ o.typ ∷ [] ≡ types_of (take (i + 1) old)
types_more old i o below is =
    let front : take (i + 1) old ≡ take i old ++ o ∷ [] = take_more old i o below ∙ ap (λ (x : OldName). take i old ++ x ∷ []) (sym is) in
    sym (ap types_of front ∙ map-append (λ (x : OldName). x.typ) (take i old) (o ∷ []))

types_left : (old : List OldName) (i : ℕ) (o : OldName) → i < length old → o ≡ get_or old i o → types_of (drop i old) ≡ o.typ ∷ types_of (drop (i + 1) old)
types_left old i o below is =
    let one : i + 1 ≡ suc i = omega arith in
    let front : drop i old ≡ o ∷ drop (i + 1) old = drop-cons old i o below ∙ (λ j. sym is j ∷ drop (sym one j) old) in
    ap types_of front

-- one type more
pub contests_more : (recs : List AsmRec) (old : List OldName) (i : ℕ) (o : OldName) (found new whole : List Contest) → i < length old → o ≡ get_or old i o
    → new ≡ found ++ contests_of recs (types_of (take i old)) o.typ
    → found ++ contests_from recs (types_of (take i old)) (types_of (drop i old)) ≡ whole
    → new ++ contests_from recs (types_of (take (i + 1) old)) (types_of (drop (i + 1) old)) ≡ whole
contests_more recs old i o found new whole below is more e =
    let before = types_of (take i old) in
    let rest = types_of (drop (i + 1) old) in
    (λ j. more j ++ contests_from recs (sym (types_more old i o below is) j) rest)
    ∙ append_assoc found (contests_of recs before o.typ) (contests_from recs (before ++ o.typ ∷ []) rest)
    ∙ ap (λ (ts : List RowAt). found ++ contests_from recs before ts) (sym (types_left old i o below is)) ∙ e

pub contests_end : (recs : List AsmRec) (old : List OldName) (i : ℕ) (found whole : List Contest) → length old ≤ i
    → found ++ contests_from recs (types_of (take i old)) (types_of (drop i old)) ≡ whole → found ≡ whole
contests_end recs old i found whole past e =
    let none : drop i old ≡ [] = drop_all i old past in
    sym (append-nil found) ∙ (λ j. found ++ contests_from recs (types_of (take i old)) (types_of (sym none j))) ∙ e
