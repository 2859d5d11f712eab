-- Methods among what the rules of marking list for a slot.
use Rattle.std.proofs.Common.{◌≡◌, Bool, true, false, List, [], ◌∷◌, ◌++◌, Option, Some, inl, inr, refl, sym, ap, ◌∙◌}
use Rattle.std.specs.Prelude.{◌&&◌, not, if◌then◌else◌}
use Rattle.std.specs.List.{list_any, flat_map}
use Rattle.std.specs.Option.{option_and_then}
use Rattle.std.proofs.lemmas.Bool.{and_from, or_left, or_right}
use Rattle.il_base.specs.declared.world_model.expr.TypeExpr.{TypeExpr}
use Rattle.il_base.specs.declared.world_model.members.MethodDefRow.{MethodDefRow}
use Rattle.il_base.specs.declared.world_model.record.AsmRec.{AsmRec}
use Rattle.rules.specs.declared.link_rules.row_at.RowAt.{RowAt}
use Rattle.rules.specs.link_rules.Cycles.{listed, same_row, home_of, only_interface}
use Rattle.rules.specs.type_rules.Slots.{open_type, method_row_at, type_of_method, type_of_row, slot_of}
use Rattle.rules.specs.type_rules.Dispatch.{implied, in_interface, class_dispatch, from_choice}
use Rattle.base_laws.proofs.lemmas.type_laws.Within.{In, any_in, in_front, in_behind, listed_in, flat_in}
use Rattle.base_laws.proofs.lemmas.type_laws.Places.{rows_decide}
use Rattle.rules.specs.mark_rules.Places.{marks_method}
use Rattle.rules.specs.mark_rules.Types.{impl_type}
use Rattle.rules.specs.mark_rules.Calls.{is_own_slot, class_answer, class_runs, choice, found_first, found_for, is_base_of, row_class, searched, first_found, interface_answer, interface_runs}
use Rattle.run_laws.proofs.lemmas.marked_laws.Closing.{mapped_in}

if_in : {A : Type 0} (x : A) (b : Bool) (xs : List A) → b ≡ true → In x xs → In x (if b then xs else [])
if_in x true xs h i = i
if_in x false xs h i = absurd (cc)

pub any_from : {A : Type 0} (p : A → Bool) (x : A) (xs : List A) → In x xs → p x ≡ true → list_any p xs ≡ true
any_from p x [] i h = absurd i
any_from p x (y ∷ xs) (inl e) h = or_left (p y) (list_any p xs) (ap p (sym e) ∙ h)
any_from p x (y ∷ xs) (inr i) h = or_right (p y) (list_any p xs) (any_from p x xs i h)

module _ (recs : List AsmRec) where
  pub same_listed : (x : RowAt) (o : Option RowAt) → o ≡ Some x → list_any (same_row x) (listed o) ≡ true
  same_listed x o e = any_in same_row rows_decide x (listed o) (listed_in x o e)

  own_slot : (s : RowAt) → slot_of recs s ≡ Some s → is_own_slot recs s ≡ true
  own_slot s e = same_listed s (slot_of recs s) e

  no_interface : (b : Bool) → b ≡ false → not b ≡ true
  no_interface true e = absurd (cc)
  no_interface false e = refl

  pub in_class_runs : (x s f : RowAt) → slot_of recs s ≡ Some s → in_interface recs s ≡ false → class_dispatch recs (open_type recs x) s ≡ Some f → In (marks_method recs f) (class_runs recs x s)
  unfolding class_runs class_answer
  in_class_runs x s f own class h =
      mapped_in (marks_method recs) f (if is_own_slot recs s && not (in_interface recs s) then listed (class_dispatch recs (open_type recs x) s) else [])
      (if_in f (is_own_slot recs s && not (in_interface recs s)) (listed (class_dispatch recs (open_type recs x) s))
      (and_from (is_own_slot recs s) (not (in_interface recs s)) (own_slot s own) (no_interface (in_interface recs s) class))
      (listed_in f (class_dispatch recs (open_type recs x) s) h))

  in_found_first : (s c J : RowAt) (d : MethodDefRow) (i : TypeExpr) (f : RowAt) → home_of recs i ≡ Some J → from_choice recs s d (type_of_row recs s) (choice (open_type recs c) i) ≡ Some f
      → In f (found_first recs s (open_type recs c) J d i)
  in_found_first s c J d i f home h =
      if_in f (list_any (same_row J) (listed (home_of recs i))) (listed (from_choice recs s d (type_of_row recs s) (choice (open_type recs c) i))) (same_listed J (home_of recs i) home)
      (listed_in f (from_choice recs s d (type_of_row recs s) (choice (open_type recs c) i)) h)

  in_found_for : (s c J : RowAt) (d : MethodDefRow) (j i : TypeExpr) (f : RowAt) → type_of_method recs s ≡ Some J → method_row_at recs s ≡ Some d → In i (implied recs j) → home_of recs i ≡ Some J
      → from_choice recs s d (type_of_row recs s) (choice (open_type recs c) i) ≡ Some f → In f (found_for recs s (open_type recs c) j)
  in_found_for s c J d j i f of row within home h =
      flat_in (λ (owner : RowAt). flat_map (λ (m : MethodDefRow). flat_map (found_first recs s (open_type recs c) owner m) (implied recs j)) (listed (method_row_at recs s))) f J (listed (type_of_method recs s))
      (listed_in J (type_of_method recs s) of)
      (flat_in (λ (m : MethodDefRow). flat_map (found_first recs s (open_type recs c) J m) (implied recs j)) f d (listed (method_row_at recs s)) (listed_in d (method_row_at recs s) row)
      (flat_in (found_first recs s (open_type recs c) J d) f i (implied recs j) within (in_found_first s c J d i f home h)))

  -- what is so of a method that the search for an interface slot finds first
  pub record First (x s r f : RowAt) : Type 0 where
    pub own : slot_of recs s ≡ Some s
    pub interface : in_interface recs s ≡ true
    pub class : RowAt
    pub class_is : row_class recs r ≡ Some class
    pub base : is_base_of recs class x ≡ true
    pub named : TypeExpr
    pub names : In named (only_interface recs (impl_type recs r))
    pub owner : RowAt
    pub of : type_of_method recs s ≡ Some owner
    pub row : MethodDefRow
    pub there : method_row_at recs s ≡ Some row
    pub instance : TypeExpr
    pub within : In instance (implied recs named)
    pub home : home_of recs instance ≡ Some owner
    pub found : from_choice recs s row (type_of_row recs s) (choice (open_type recs class) instance) ≡ Some f

  in_first : (x s r f : RowAt) → First x s r f → In f (first_found recs x s r)
  unfolding first_found
  in_first x s r f m =
      if_in f (is_own_slot recs s && in_interface recs s) (flat_map (searched recs x s r) (listed (row_class recs r))) (and_from (is_own_slot recs s) (in_interface recs s) (own_slot s m.own) m.interface)
      (flat_in (searched recs x s r) f m.class (listed (row_class recs r)) (listed_in m.class (row_class recs r) m.class_is)
      (if_in f (is_base_of recs m.class x) (flat_map (found_for recs s (open_type recs m.class)) (only_interface recs (impl_type recs r))) m.base
      (flat_in (found_for recs s (open_type recs m.class)) f m.named (only_interface recs (impl_type recs r)) m.names
      (in_found_for s m.class m.owner m.row m.named m.instance f m.of m.there m.within m.home m.found))))

  pub in_interface_runs : (x s r f : RowAt) → First x s r f → In (marks_method recs f) (interface_runs recs x s r)
  unfolding interface_runs
  in_interface_runs x s r f m =
      mapped_in (marks_method recs) f (first_found recs x s r ++ interface_answer recs x s r) (in_front f (first_found recs x s r) (interface_answer recs x s r) (in_first x s r f m))

  then_some : (g : RowAt → Option RowAt) (o : Option RowAt) (y z : RowAt) → o ≡ Some y → g y ≡ Some z → option_and_then g o ≡ Some z
  then_some g o y z e h = ap (option_and_then g) e ∙ h

  pub in_interface_answer : (x s r f slot g : RowAt) → First x s r f → slot_of recs f ≡ Some slot → class_dispatch recs (open_type recs x) slot ≡ Some g → In (marks_method recs g) (interface_runs recs x s r)
  unfolding interface_runs
  in_interface_answer x s r f slot g m of h =
      mapped_in (marks_method recs) g (first_found recs x s r ++ interface_answer recs x s r)
      (in_behind g (first_found recs x s r) (interface_answer recs x s r)
      (flat_in (λ m. listed (option_and_then (class_dispatch recs (open_type recs x)) (slot_of recs m))) g f (first_found recs x s r) (in_first x s r f m)
      (listed_in g (option_and_then (class_dispatch recs (open_type recs x)) (slot_of recs f)) (then_some (class_dispatch recs (open_type recs x)) (slot_of recs f) slot g of h))))
