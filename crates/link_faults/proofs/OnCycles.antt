-- A type is on a cycle where its id is.
use Rattle.std.proofs.Common.{◌≡◌, ℕ, Bool, true, false, ◌||◌, nat_eq, List, take, Some, None, refl, sym, ap, subst, ◌∙◌}
use Rattle.std.specs.Prelude.{slice_get}
use Rattle.il_base.specs.declared.ids.TypeId.{TypeId}
use Rattle.il_base.specs.declared.world_model.record.AsmRec.{AsmRec}
use Rattle.il_base.specs.declared.world_model.types.TypeDefRow.{TypeDefRow}
use Rattle.il_base.specs.declared.world_model.world.TypeLink.{TypeLink}
use Rattle.il_base.specs.world_model.Worlds.{type_id}
use Rattle.rules.specs.declared.link_rules.row_at.RowAt.{RowAt}
use Rattle.rules.specs.link_rules.Types.{at_row}
use Rattle.rules.specs.link_rules.Members.{type_count}
use Rattle.rules.specs.link_rules.Cycles.{is_on_cycle, same_row, base_rows, interface_rows, field_values}
use Rattle.rules.specs.link_rules.Faults.{first_of, is_cyclic_type, cyclic_type, cyclic_types}
use Rattle.link_faults.specs.Graphs.{next_in, IsAcyclic}
use Rattle.link_faults.specs.Targets.{id_of}
use Rattle.link_faults.specs.TypeCycles.{Tells, AreGraphs, HasType}
use Rattle.link_faults.specs.declared.cycles.Graphs.{Graphs}
use Rattle.link_faults.proofs.Renamed.{cycle_moved}
use Rattle.link_faults.proofs.Defined.{IsType, same_by_id, row_is_type}
use Rattle.link_faults.proofs.SupersTold.{bases_lead, interfaces_lead}
use Rattle.link_faults.proofs.HeldTold.{held_lead}
use Rattle.link_faults.proofs.Typed.{item_within}
use Rattle.link_faults.proofs.Walks.{first_none_at, of_front}

module _ (all : List AsmRec) (links : List TypeLink) (told : Tells all links) (graphs : Graphs) (are : AreGraphs all links graphs) where
  abbrev on : (RowAt → List RowAt) → ℕ → ℕ → Bool
  on next file at = is_on_cycle same_row next (type_count all) (at_row file at)

  module _ (file at : ℕ) (there : HasType all file at) (n : ℕ) where
    bases_same : is_on_cycle nat_eq (next_in graphs.bases.items) n (type_id all file at).0 ≡ is_on_cycle same_row (base_rows all) n (at_row file at)
    bases_same =
        ap (λ (g : List (List ℕ)). is_on_cycle nat_eq (next_in g) n (type_id all file at).0) are.bases
        ∙ sym (cycle_moved same_row (base_rows all) (IsType all) (id_of all) (next_in _) (same_by_id all) (bases_lead all links told.tokens) n (at_row file at) there)

    interfaces_same : is_on_cycle nat_eq (next_in graphs.interfaces.items) n (type_id all file at).0 ≡ is_on_cycle same_row (interface_rows all) n (at_row file at)
    interfaces_same =
        ap (λ (g : List (List ℕ)). is_on_cycle nat_eq (next_in g) n (type_id all file at).0) are.interfaces
        ∙ sym (cycle_moved same_row (interface_rows all) (IsType all) (id_of all) (next_in _) (same_by_id all) (interfaces_lead all links told.tokens) n (at_row file at) there)

    held_same : is_on_cycle nat_eq (next_in graphs.held.items) n (type_id all file at).0 ≡ is_on_cycle same_row (field_values all) n (at_row file at)
    held_same =
        ap (λ (g : List (List ℕ)). is_on_cycle nat_eq (next_in g) n (type_id all file at).0) are.held
        ∙ sym (cycle_moved same_row (field_values all) (IsType all) (id_of all) (next_in _) (same_by_id all) (held_lead all links told.tokens told.signatures) n (at_row file at) there)

  -- ---- the three answers

  module _ (file at : ℕ) (there : HasType all file at) (n : ℕ) (counted : n ≡ type_count all) (id : TypeId) (is : id ≡ type_id all file at) where
    in_bases : (now : List (List ℕ)) (b : Bool) → now ≡ graphs.bases.items → b ≡ is_on_cycle nat_eq (next_in now) n id.0 → b ≡ on (base_rows all) file at
    in_bases now b e f = f ∙ (λ i. is_on_cycle nat_eq (next_in (e i)) (counted i) (is i).0) ∙ bases_same file at there (type_count all)

    in_interfaces : (now : List (List ℕ)) (b : Bool) → now ≡ graphs.interfaces.items → b ≡ is_on_cycle nat_eq (next_in now) n id.0 → b ≡ on (interface_rows all) file at
    in_interfaces now b e f = f ∙ (λ i. is_on_cycle nat_eq (next_in (e i)) (counted i) (is i).0) ∙ interfaces_same file at there (type_count all)

    in_held : (now : List (List ℕ)) (b : Bool) → now ≡ graphs.held.items → b ≡ is_on_cycle nat_eq (next_in now) n id.0 → b ≡ on (field_values all) file at
    in_held now b e f = f ∙ (λ i. is_on_cycle nat_eq (next_in (e i)) (counted i) (is i).0) ∙ held_same file at there (type_count all)

    pub cyclic_first : (now : List (List ℕ)) → now ≡ graphs.bases.items → (b : Bool) → b ≡ is_on_cycle nat_eq (next_in now) n id.0 → b ≡ true → true ≡ is_cyclic_type all (at_row file at)
    unfolding is_cyclic_type
    cyclic_first now e b f h =
        let x = sym (in_bases now b e f) ∙ h in
        ap (λ (y : Bool). y || on (interface_rows all) file at || on (field_values all) file at) (sym x)

    pub cyclic_second : (bases now : List (List ℕ)) → bases ≡ graphs.bases.items → now ≡ graphs.interfaces.items → (b c : Bool) → b ≡ is_on_cycle nat_eq (next_in bases) n id.0 → b ≡ false
        → c ≡ is_on_cycle nat_eq (next_in now) n id.0 → c ≡ true → true ≡ is_cyclic_type all (at_row file at)
    unfolding is_cyclic_type
    cyclic_second bases now e f b c g h k l =
        let x = sym (in_bases bases b e g) ∙ h in
        let y = sym (in_interfaces now c f k) ∙ l in
        λ i. sym x i || sym y i || on (field_values all) file at

    pub cyclic_third : (bases interfaces now : List (List ℕ)) → bases ≡ graphs.bases.items → interfaces ≡ graphs.interfaces.items → now ≡ graphs.held.items → (b c d : Bool)
        → b ≡ is_on_cycle nat_eq (next_in bases) n id.0 → b ≡ false → c ≡ is_on_cycle nat_eq (next_in interfaces) n id.0 → c ≡ false → d ≡ is_on_cycle nat_eq (next_in now) n id.0
        → d ≡ is_cyclic_type all (at_row file at)
    unfolding is_cyclic_type
    cyclic_third bases interfaces now e f g b c d h i j k l =
        let x = sym (in_bases bases b e h) ∙ i in
        let y = sym (in_interfaces interfaces c f j) ∙ k in
        in_held now d g l ∙ (λ u. sym x u || sym y u || on (field_values all) file at)

  -- ---- where no id is on a cycle

  module _ (bases : IsAcyclic graphs.bases.items) (interfaces : IsAcyclic graphs.interfaces.items) (held : IsAcyclic graphs.held.items) where
    not_cyclic : (file at : ℕ) → HasType all file at → is_cyclic_type all (at_row file at) ≡ false
    unfolding is_cyclic_type
    not_cyclic file at there = λ i.
        (sym (bases_same file at there (type_count all)) ∙ bases (type_count all) (type_id all file at).0) i
        || (sym (interfaces_same file at there (type_count all)) ∙ interfaces (type_count all) (type_id all file at).0) i
        || (sym (held_same file at there (type_count all)) ∙ held (type_count all) (type_id all file at).0) i

    no_fault : (file k : ℕ) (t : TypeDefRow) → is_cyclic_type all (at_row file k) ≡ false → cyclic_type all file k t ≡ None
    no_fault file k t e = rw e refl

    none_in : (file : ℕ) (rec : AsmRec) → slice_get all file ≡ Some rec → None ≡ first_of (cyclic_type all file) 0 rec.type_def
    none_in file rec e =
        first_none_at (cyclic_type all file) rec.type_def (λ k t f. no_fault file k t (not_cyclic file k (row_is_type all file k rec e (item_within rec.type_def k t f))))

    pub none_cyclic : (n : ℕ) → None ≡ cyclic_types all (take n all)
    unfolding cyclic_types
    none_cyclic n = first_none_at (λ i (rec : AsmRec). first_of (cyclic_type all i) 0 rec.type_def) (take n all) (λ k rec e. sym (none_in k rec (of_front n all k rec e)))

pub same_graphs : (all now : List AsmRec) (links told : List TypeLink) (graphs : Graphs) → now ≡ all → told ≡ links → AreGraphs now told graphs → AreGraphs all links graphs
same_graphs all now links told graphs e f are =
    subst (λ (x : List AsmRec). AreGraphs x links graphs) e (subst (λ (y : List TypeLink). AreGraphs now y graphs) f are)
