-- The first reference to each type.
use Rattle.std.proofs.Common.{◌≡◌, ℕ, suc, ◌+◌, ◌<◌, ◌≤◌, Bool, true, false, List, ◌∷◌, length, map, drop, get_or, Option, Some, None, refl, sym, ap, ◌∙◌, arith, drop-cons}
use Rattle.std.specs.Prelude.{if◌then◌else◌}
use Rattle.std.specs.Option.{option_or}
use Rattle.std.proofs.lemmas.List.{drop_all}
use Rattle.il_base.specs.declared.world_model.assemblies.AssemblyRefRow.{AssemblyRefRow}
use Rattle.rules.specs.declared.link_rules.row_at.RowAt.{RowAt}
use Rattle.rules.specs.link_rules.Cycles.{same_row}
use Rattle.rules.specs.merge_rules.Absent.{bare}
use Rattle.token_keys.specs.declared.core_scopes.core_refs.CoreRef as code
use Rattle.token_keys.specs.core_scopes.CoreRefs.{told}
use Rattle.token_keys.specs.core_scopes.Firsts.{same_spot, spot_of, scope_at}

first_step : {V : Type 0} (m : Option V) (b : Bool) (v : V) (rest whole : Option V)
    → option_or m (if b then Some v else rest) ≡ whole → option_or (option_or m (if b then Some v else None)) rest ≡ whole
first_step (Some w) b v rest whole e = e
first_step None true v rest whole e = e
first_step None false v rest whole e = e

-- one reference more: its assembly is there, unless its type has an earlier one
pub ref_step : (refs : List code.CoreRef) (i : ℕ) (one : code.CoreRef) → i < length refs → one ≡ get_or refs i one → (q : RowAt) (m n whole : Option AssemblyRefRow)
    → n ≡ option_or m (if same_spot (spot_of one.typ) (spot_of q) then Some (bare one.by.now) else None)
    → option_or m (scope_at (map told (drop i refs)) q) ≡ whole → option_or n (scope_at (map told (drop (i + 1) refs)) q) ≡ whole
ref_step refs i one below is q m n whole new old =
    let next : i + 1 ≡ suc i = omega arith in
    let front : drop i refs ≡ one ∷ drop (i + 1) refs = drop-cons refs i one below ∙ (λ j. sym is j ∷ drop (sym next j) refs) in
    rw new (first_step m (same_row one.typ q) (bare one.by.now) (scope_at (map told (drop (i + 1) refs)) q) whole
    (ap (λ (rs : List code.CoreRef). option_or m (scope_at (map told rs) q)) (sym front) ∙ old))

or_none : {A : Type 0} (o : Option A) → option_or o None ≡ o
or_none None = refl
or_none (Some x) = refl

pub refs_all : (refs : List code.CoreRef) (q : RowAt) (o : Option AssemblyRefRow) (i : ℕ) → length refs ≤ i
    → option_or o (scope_at (map told (drop i refs)) q) ≡ scope_at (map told refs) q → o ≡ scope_at (map told refs) q
refs_all refs q o i past e =
    sym (or_none o) ∙ ap (λ (rs : List code.CoreRef). option_or o (scope_at (map told rs) q)) (sym (drop_all i refs past)) ∙ e
