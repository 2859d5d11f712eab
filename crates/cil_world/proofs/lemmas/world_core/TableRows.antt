-- The members of the table by their rows.
use Rattle.std.proofs.Common.{◌≡◌, ℕ, ◌+◌, ◌-◌, ◌≤◌, nat_lt, List, [], ◌∷◌, length, Bool, true, false, Option, Some, None, refl, sym, arith}
use Rattle.std.specs.Prelude.{◌==◌}
use Rattle.std.specs.Option.{option_and_then}
use Rattle.std.proofs.lemmas.Bool.{ltb-true, ltb-false, ne_eqb}
use Rattle.il_base.specs.declared.core_table.shape.CoreType.{CoreType}
use Rattle.il_base.specs.declared.core_table.types.TheConstants.{TYPES, METHOD_COUNT}
use Rattle.il_base.specs.core_table.Members.{methods_of}
use Rattle.il_base.specs.declared.core_table.kinds.CoreKind.{CoreKind}
use Rattle.il_base.specs.declared.core_table.kinds.OwnedMethod.{OwnedMethod}
use Rattle.il_base.specs.core_table.Kinds.{member_in, kind_at, member_of, core_row, core_kind}
use Rattle.il_base.specs.declared.ids.MethodId.{MethodId}
use Rattle.il_base.specs.declared.world_model.world.World.{World}
use Rattle.rules.specs.view_rules.Members.{call_of, core_call}

unfoldable total : List CoreType → ℕ
total [] = 0
total (t ∷ ts) = length (methods_of t.members) + total ts

within_first : (t : CoreType) (ts : List CoreType) (at : ℕ) (b : Bool) → nat_lt at (length (methods_of t.members)) ≡ b → length (methods_of t.members) + total ts ≤ at
    → member_in ts (at - length (methods_of t.members)) ≡ None → member_in (t ∷ ts) at ≡ None
unfolding member_in
within_first t ts at true e le rest = let lt = ltb-true at (length (methods_of t.members)) e in absurd (omega (arith, lt, le))
within_first t ts at false e le rest = rw e rest

past_in : (ts : List CoreType) (at : ℕ) → total ts ≤ at → member_in ts at ≡ None
unfolding member_in total
past_in [] at le = refl
past_in (t ∷ ts) at le =
    within_first t ts at (nat_lt at (length (methods_of t.members))) refl le (past_in ts (at - length (methods_of t.members)) (omega (arith, le)))

all_of_them : total TYPES ≡ METHOD_COUNT
unfolding total methods_of
all_of_them = refl

kind_none : (b : Bool) (at : ℕ) → nat_lt at METHOD_COUNT ≡ b → None ≡ kind_at (Some at) → member_in TYPES at ≡ None
kind_none true at e h = let some : None ≡ Some (record { 0 = at + 1 }) = rw e at h in absurd cc
kind_none false at e h = past_in TYPES at (rw all_of_them (ltb-false at METHOD_COUNT e))

row_none : (row : Option ℕ) → None ≡ kind_at row → option_and_then call_of (option_and_then (member_in TYPES) row) ≡ None
row_none None h = refl
row_none (Some at) h = rw (kind_none (nat_lt at METHOD_COUNT) at refl h) refl

pub no_kind : (w : World) (m : MethodId) → None ≡ core_kind w m → None ≡ core_call w.recs m.0
unfolding core_kind core_call
no_kind w m h = sym (row_none (core_row w.recs m.0) h)

at_row : (b : Bool) (at : ℕ) (k : CoreKind) → nat_lt at METHOD_COUNT ≡ b → Some k ≡ kind_at (Some at) → member_of k ≡ member_in TYPES at
unfolding member_of
at_row true at k e h =
    let some : Some k ≡ Some (record { 0 = at + 1 }) = rw e at h in
    let same : k ≡ record { 0 = at + 1 } = cc in
    let above : (at + 1 == 0) ≡ false = ne_eqb (at + 1) 0 (λ z. omega (arith, z)) in
    let back : at + 1 - 1 ≡ at = omega arith in
    rw (same, above, back) refl
at_row false at k e h = let none : Some k ≡ None = rw e at h in absurd cc

row_some : (row : Option ℕ) (k : CoreKind) → Some k ≡ kind_at row → option_and_then call_of (option_and_then (member_in TYPES) row) ≡ option_and_then call_of (member_of k)
row_some None k h = absurd cc
row_some (Some at) k h = rw (at_row (nat_lt at METHOD_COUNT) at k refl h) refl

pub by_kind : (w : World) (m : MethodId) (k : CoreKind) (member : Option OwnedMethod) → Some k ≡ core_kind w m → member ≡ member_of k → option_and_then call_of member ≡ core_call w.recs m.0
unfolding core_kind core_call
by_kind w m k member h e = rw e (sym (row_some (core_row w.recs m.0) k h))
