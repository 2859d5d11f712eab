-- What interface rows of a kept type lead to: kept interfaces, which move, and interfaces that go with all that they imply.
use Rattle.std.proofs.Common.{◌≡◌, ℕ, zero, suc, ◌+◌, Bool, true, false, List, [], ◌∷◌, ◌++◌, map, Option, Some, None, ◌⊎◌, inl, inr, refl, sym, ap, subst, ◌∙◌, arith}
use Rattle.std.specs.Prelude.{slice_get, IsTrue, if◌then◌else◌}
use Rattle.std.specs.List.{flat_map, filter}
use Rattle.std.specs.Option.{option_map, option_and_then}
use Rattle.std.proofs.lemmas.Bool.{true≢false}
use Rattle.std.proofs.lemmas.List.{map-append}
use Rattle.il_base.specs.declared.world_model.expr.TypeExpr.{TypeExpr}
use Rattle.il_base.specs.declared.world_model.types.TypeDefRow.{TypeDefRow}
use Rattle.il_base.specs.declared.world_model.types.InterfaceImplRow.{InterfaceImplRow}
use Rattle.il_base.specs.declared.world_model.record.AsmRec.{AsmRec}
use Rattle.il_base.specs.world_model.Exprs.{subst as put}
use Rattle.il_base.specs.world_model.Tokens.{token_of}
use Rattle.rules.specs.declared.link_rules.row_at.RowAt.{RowAt}
use Rattle.rules.specs.link_rules.Types.{at_row}
use Rattle.rules.specs.link_rules.Members.{args_of}
use Rattle.rules.specs.link_rules.Cycles.{listed, same_row, home_of, is_interface_at, is_interface, interface_of, interfaces_in, interfaces_at, interface_rows}
use Rattle.rules.specs.link_rules.Linked.{assemblies, link_fault_of}
use Rattle.rules.specs.type_rules.Rows.{each_from}
use Rattle.rules.specs.type_rules.Subtypes.{put_in, interfaces_of}
use Rattle.base_laws.proofs.lemmas.type_laws.Within.{In, any_in, in_listed, listed_in, in_map, in_flat, flat_in, in_front, in_behind, in_parts}
use Rattle.base_laws.proofs.lemmas.type_laws.Reaching.{Leads, found}
use Rattle.base_laws.proofs.lemmas.type_laws.Places.{rows_decide}
use Rattle.base_laws.proofs.lemmas.type_laws.Upwards.{kept_home, are_interfaces, homed, step_interface, interface_named}
use Rattle.base_laws.proofs.lemmas.type_laws.Ways.{top, top_home, top_class, arrays}
use Rattle.base_laws.proofs.lemmas.walk_laws.Finds.{contains}
use Rattle.rules.specs.change_rules.Change.{Change}
use Rattle.rules.specs.change_rules.Moves.{move_expr, move_exprs}
use Rattle.rules.specs.change_rules.Keeps.{keeps_expr}
use Rattle.rules.specs.world_change_rules.Places.{Places, keeps_type_row}
use Rattle.rules.specs.world_change_rules.Rows.{RowsMove, kept_interface_of, kept_interfaces_in, kept_interfaces_at}
use Rattle.rules.specs.world_change_rules.Kept.{KeepsRows}
use Rattle.run_laws.proofs.lemmas.query_laws.Homes.{home_moved, home_kept}
use Rattle.run_laws.proofs.lemmas.query_laws.Bases.{put_list_moved, put_kept}
use Rattle.run_laws.proofs.lemmas.dispatch_laws.There.{home_there}
use Rattle.run_laws.specs.subtype_laws.Gone.{Goes, KeepsImplied}
use Rattle.run_laws.proofs.lemmas.subtype_laws.Filtered.{filter_both, filter_none, in_kept, filter_all}

-- ---- rows with their numbers

-- the row that gives an item, with its number
pub record FromRow {A B : Type 0} (g : A → List B) (rows : List A) (y : B) : Type 0 where
  pub number : ℕ
  pub row : A
  pub there : slice_get rows number ≡ Some row
  pub gives : In y (g row)

from_later : {A B : Type 0} (g : A → List B) (x : A) (rows : List A) (y : B) → FromRow g rows y → FromRow g (x ∷ rows) y
from_later g x rows y m = record { number = suc m.number; row = m.row; there = m.there; gives = m.gives }

from_by : {A B : Type 0} (g : A → List B) (x : A) (rows : List A) (y : B) → (In y (flat_map g rows) → FromRow g rows y) → In y (g x) ⊎ In y (flat_map g rows) → FromRow g (x ∷ rows) y
from_by g x rows y more (inl h) = record { number = 0; row = x; there = refl; gives = h }
from_by g x rows y more (inr h) = from_later g x rows y (more h)

pub from_row : {A B : Type 0} (g : A → List B) (rows : List A) (y : B) → In y (flat_map g rows) → FromRow g rows y
from_row g [] y h = absurd h
from_row g (x ∷ rows) y h = from_by g x rows y (from_row g rows y) (in_parts y (g x) (flat_map g rows) h)

-- what one row gives is among what all give
each_in : {A B : Type 0} (f : ℕ → A → List B) (i n : ℕ) (rows : List A) (x : A) (y : B) → slice_get rows n ≡ Some x → In y (f (i + n) x) → In y (each_from f i rows)
each_in f i n [] x y e h = absurd (cc)
each_in f i zero (z ∷ rows) x y e h =
    let same : z ≡ x = cc in
    let none : i + 0 ≡ i = omega arith in
    in_front y (f i z) (each_from f (suc i) rows) (subst (λ w. In y (f i w)) (sym same) (subst (λ k. In y (f k x)) none h))
each_in f i (suc n) (z ∷ rows) x y e h =
    let next : i + suc n ≡ suc i + n = omega arith in
    in_behind y (f i z) (each_from f (suc i) rows) (each_in f (suc i) n rows x y e (subst (λ k. In y (f k x)) next h))

module _ {A B C : Type 0} (K : C → Bool) (S : B → C) (g : A → List B) (f : ℕ → A → List B) where
  rows_kept_by : (i : ℕ) (x : A) (rows : List A) → filter K (map S (g x)) ≡ map S (f i x) → filter K (map S (flat_map g rows)) ≡ map S (each_from f (suc i) rows)
      → filter K (map S (g x ++ flat_map g rows)) ≡ map S (f i x ++ each_from f (suc i) rows)
  rows_kept_by i x rows here more =
      ap (filter K) (map-append S (g x) (flat_map g rows)) ∙ filter_both K (map S (g x)) (map S (flat_map g rows)) ∙ (λ j. here j ++ more j) ∙ sym (map-append S (f i x) (each_from f (suc i) rows))

  -- where this is so of each row, it is of all
  pub rows_kept : (i : ℕ) (rows : List A) → ((n : ℕ) (x : A) → slice_get rows n ≡ Some x → filter K (map S (g x)) ≡ map S (f (i + n) x))
      → filter K (map S (flat_map g rows)) ≡ map S (each_from f i rows)
  rows_kept i [] h = refl
  rows_kept i (x ∷ rows) h =
      let none : i + 0 ≡ i = omega arith in
      rows_kept_by i x rows (h 0 x refl ∙ ap (λ (k : ℕ). map S (f k x)) none)
      (rows_kept (suc i) rows (λ n y e. let next : i + suc n ≡ suc i + n = omega arith in h (suc n) y e ∙ ap (λ (k : ℕ). map S (f k y)) next))

-- ---- interfaces that go

module _ (k : Change) (kept : RowAt → Bool) (inputs : List AsmRec) (sound : link_fault_of inputs ≡ None) (keeps : KeepsRows k.keep kept (assemblies inputs)) (implied : KeepsImplied k.keep kept (assemblies inputs)) where
  abbrev pub before : List AsmRec
  before = assemblies inputs

  abbrev pub K : TypeExpr → Bool
  K = keeps_expr k.keep

  pub record Gone (e : TypeExpr) : Type 0 where
    pub home : RowAt
    pub is : home_of before e ≡ Some home
    pub interface : is_interface_at before home ≡ true
    pub none : (n : ℕ) (y : RowAt) → Leads (interface_rows before) n home y → keeps_type_row k.keep before y ≡ false

  pub home_put : (targs : List TypeExpr) (e : TypeExpr) → is_interface before e ≡ true → home_of before (put targs [] e) ≡ home_of before e
  home_put targs e is =
      kept_home before (top inputs sound) (top_home inputs sound) (top_class inputs sound) (arrays inputs sound) targs e
      (interface_named before (top inputs sound) (top_home inputs sound) (top_class inputs sound) (arrays inputs sound) e is)

  -- what stands in the rows of one that goes does too, with arguments put in
  pub gone_steps : (x y : TypeExpr) → Gone x → In y (interfaces_of before x) → Gone y
  unfolding interfaces_of
  gone_steps x y g h =
      let m = in_map (put (args_of x) []) y (flat_map (interfaces_at before) (listed (home_of before x))) h in
      let b = in_flat (interfaces_at before) m.0 (listed (home_of before x)) m.1 in
      let same : b.0 ≡ g.home = (let f = sym (in_listed b.0 (home_of before x) b.1) ∙ g.is in cc) in
      let is = are_interfaces before b.0 m.0 b.2 in
      let i = homed before m.0 is in
      let step = step_interface before b.0 i.0 m.0 b.2 i.1 in
      record {
        home = i.0;
        is = ap (home_of before) m.2 ∙ home_put (args_of x) m.0 is ∙ i.1;
        interface = i.2;
        none = λ n z l. g.none (suc n) z (i.0, subst (λ (w : RowAt). In i.0 (interface_rows before w)) same step, l);
      }

  -- what a row names that isn't kept goes
  row_gone : (targs : List TypeExpr) (e : TypeExpr) → is_interface before e ≡ true → Goes k.keep before e → Gone (put targs [] e)
  row_gone targs e is goes =
      let i = homed before e is in
      record {
        home = i.0;
        is = home_put targs e is ∙ i.1;
        interface = i.2;
        none = λ n y l. goes n i.0 y i.1 (any_in same_row rows_decide y _ (found same_row rows_decide (interface_rows before) n n i.0 y (i.0 ∷ []) (omega arith) (inl refl) l));
      }

  module _ (p : Places) (after : List AsmRec) (r : RowsMove k kept p after before) where
    unkept_by : (e : TypeExpr) (b : Bool) → K e ≡ b → Gone e → b ≡ false
    unkept_by e true is g = absurd (true≢false (sym (home_kept k kept p after before r keeps e g.home is g.is) ∙ g.none 0 g.home refl))
    unkept_by e false is g = refl

    -- what goes isn't kept
    pub gone_unkept : (e : TypeExpr) → Gone e → K e ≡ false
    gone_unkept e g = unkept_by e (K e) refl g

    -- ---- the rows of a kept type

    module _ (x : TypeExpr) (kept_x : K x ≡ true) (at : RowAt) (is_home : home_of before x ≡ Some at) where
      kept_at : IsTrue (keeps_type_row k.keep before at)
      kept_at = home_kept k kept p after before r keeps x at kept_x is_home

      abbrev S : TypeExpr → TypeExpr
      S = put (args_of x) []

      module _ (rec : AsmRec) (there : slice_get before at.asm ≡ Some rec) (type_row : TypeDefRow) (type_is : slice_get rec.type_def at.row ≡ Some type_row) where
        abbrev g : InterfaceImplRow → List TypeExpr
        g = interface_of before at.asm rec (token_of 0x02 (suc at.row))

        abbrev f : ℕ → InterfaceImplRow → List TypeExpr
        f = kept_interface_of before kept at.asm rec (token_of 0x02 (suc at.row))

        in_row : (e : TypeExpr) (n : ℕ) (row : InterfaceImplRow) → slice_get rec.interface_impl n ≡ Some row → In e (g row) → In e (interfaces_at before at)
        unfolding interfaces_at
        in_row e n row s i =
            flat_in (interfaces_in before at) e rec (listed (slice_get before at.asm)) (listed_in rec (slice_get before at.asm) there)
            (flat_in g e row rec.interface_impl (row_in rec.interface_impl n s) i)
          where
            row_in : (rows : List InterfaceImplRow) (n : ℕ) → slice_get rows n ≡ Some row → In row rows
            row_in [] n s = absurd (cc)
            row_in (z ∷ rows) zero s = let same : z ≡ row = cc in inl (sym same)
            row_in (z ∷ rows) (suc n) s = inr (row_in rows n s)

        row_kept : (e : TypeExpr) (n : ℕ) (row : InterfaceImplRow) → slice_get rec.interface_impl n ≡ Some row → kept (at_row at.asm n) ≡ true → In e (g row) → In e (kept_interfaces_at before kept at)
        unfolding kept_interfaces_at
        row_kept e n row s h i =
            flat_in (kept_interfaces_in before kept at) e rec (listed (slice_get before at.asm)) (listed_in rec (slice_get before at.asm) there)
            (each_in f 0 n rec.interface_impl row e s (subst (λ (m : ℕ). In e (f m row)) from_none (subst (λ (b : Bool). In e (if b then g row else [])) (sym h) i)))
          where
            from_none : n ≡ 0 + n
            from_none = omega arith

        -- an interface of a row is kept, or goes
        row_splits : (e : TypeExpr) (n : ℕ) (row : InterfaceImplRow) (b : Bool) → slice_get rec.interface_impl n ≡ Some row → kept (at_row at.asm n) ≡ b → In e (g row) → (K (S e) ≡ true) ⊎ Gone (S e)
        row_splits e n row true s h i =
            inl (put_kept k kept p after before r keeps x e kept_x (keeps.interfaces at e kept_at (contains (kept_interfaces_at before kept at) e (row_kept e n row s h i))))
        row_splits e n row false s h i =
            inr (row_gone (args_of x) e (are_interfaces before at e (in_row e n row s i)) (implied.gone at rec type_row n row e kept_at there type_is s h (contains (g row) e i)))

        row_all : (n : ℕ) (row : InterfaceImplRow) → slice_get rec.interface_impl n ≡ Some row → kept (at_row at.asm n) ≡ true → (y : TypeExpr) → In y (map S (g row)) → K y ≡ true
        row_all n row s h y i =
            let m = in_map S y (g row) i in
            ap K m.2 ∙ put_kept k kept p after before r keeps x m.0 kept_x (keeps.interfaces at m.0 kept_at (contains (kept_interfaces_at before kept at) m.0 (row_kept m.0 n row s h m.1)))

        row_none : (n : ℕ) (row : InterfaceImplRow) → slice_get rec.interface_impl n ≡ Some row → kept (at_row at.asm n) ≡ false → (y : TypeExpr) → In y (map S (g row)) → K y ≡ false
        row_none n row s h y i =
            let m = in_map S y (g row) i in
            ap K m.2
            ∙ gone_unkept (S m.0) (row_gone (args_of x) m.0 (are_interfaces before at m.0 (in_row m.0 n row s m.1)) (implied.gone at rec type_row n row m.0 kept_at there type_is s h (contains (g row) m.0 m.1)))

        row_by : (n : ℕ) (row : InterfaceImplRow) (b : Bool) → slice_get rec.interface_impl n ≡ Some row → kept (at_row at.asm n) ≡ b → filter K (map S (g row)) ≡ map S (if b then g row else [])
        row_by n row true s h = filter_all K (map S (g row)) (row_all n row s h)
        row_by n row false s h = filter_none K (map S (g row)) (row_none n row s h)

        pub in_record : filter K (map S (interfaces_in before at rec)) ≡ map S (kept_interfaces_in before kept at rec)
        in_record =
            rows_kept K S g f 0 rec.interface_impl
            (λ n row s. let from_none : n ≡ 0 + n = omega arith in row_by n row (kept (at_row at.asm n)) s refl ∙ ap (λ (m : ℕ). map S (f m row)) from_none)

        pub record_splits : (e : TypeExpr) → In e (interfaces_in before at rec) → (K (S e) ≡ true) ⊎ Gone (S e)
        record_splits e i = let m = from_row g rec.interface_impl e i in row_splits e m.number m.row (kept (at_row at.asm m.number)) m.there refl m.gives

      -- the home's row is there
      type_of_home : (rec : AsmRec) → slice_get before at.asm ≡ Some rec → (t : TypeDefRow) × (slice_get rec.type_def at.row ≡ Some t)
      type_of_home rec s = let t = home_there before x at is_home in (t.0, sym (ap (option_and_then (λ (r : AsmRec). slice_get r.type_def at.row)) s) ∙ t.1)

      by_record : (o : Option AsmRec) → slice_get before at.asm ≡ o → filter K (map S (flat_map (interfaces_in before at) (listed o))) ≡ map S (flat_map (kept_interfaces_in before kept at) (listed o))
      by_record None s = refl
      by_record (Some rec) s =
          let t = type_of_home rec s in
          ap (λ (zs : List TypeExpr). filter K (map S zs)) (append_none (interfaces_in before at rec)) ∙ in_record rec s t.0 t.1 ∙ ap (map S) (sym (append_none (kept_interfaces_in before kept at rec)))
        where
          append_none : (zs : List TypeExpr) → zs ++ [] ≡ zs
          append_none [] = refl
          append_none (z ∷ zs) = ap (λ (ws : List TypeExpr). z ∷ ws) (append_none zs)

      pub at_filtered : filter K (map S (interfaces_at before at)) ≡ map S (kept_interfaces_at before kept at)
      unfolding interfaces_at kept_interfaces_at
      at_filtered = by_record (slice_get before at.asm) refl

      pub at_splits : (e : TypeExpr) → In e (interfaces_at before at) → (K (S e) ≡ true) ⊎ Gone (S e)
      unfolding interfaces_at
      at_splits e i =
          let m = in_flat (interfaces_in before at) e (listed (slice_get before at.asm)) i in
          let s = in_listed m.0 (slice_get before at.asm) m.1 in
          let t = type_of_home m.0 s in
          record_splits m.0 s t.0 t.1 e m.2

    -- ---- the interfaces of a kept type

    unfoldable pub kept_interfaces_of : TypeExpr → List TypeExpr
    kept_interfaces_of x = put_in x (flat_map (kept_interfaces_at before kept) (listed (home_of before x)))

    append_none : (zs : List TypeExpr) → zs ++ [] ≡ zs
    append_none [] = refl
    append_none (z ∷ zs) = ap (λ (ws : List TypeExpr). z ∷ ws) (append_none zs)

    filtered_by : (x : TypeExpr) → K x ≡ true → (o : Option RowAt) → home_of before x ≡ o → filter K (put_in x (flat_map (interfaces_at before) (listed o))) ≡ put_in x (flat_map (kept_interfaces_at before kept) (listed o))
    filtered_by x h None is = refl
    filtered_by x h (Some at) is =
        ap (λ (zs : List TypeExpr). filter K (put_in x zs)) (append_none (interfaces_at before at)) ∙ at_filtered x h at is ∙ ap (put_in x) (sym (append_none (kept_interfaces_at before kept at)))

    pub interfaces_filtered : (x : TypeExpr) → K x ≡ true → filter K (interfaces_of before x) ≡ kept_interfaces_of x
    unfolding interfaces_of kept_interfaces_of
    interfaces_filtered x h = filtered_by x h (home_of before x) refl

    pub interfaces_split : (x y : TypeExpr) → K x ≡ true → In y (interfaces_of before x) → (K y ≡ true) ⊎ Gone y
    unfolding interfaces_of
    interfaces_split x y h i =
        let m = in_map (put (args_of x) []) y (flat_map (interfaces_at before) (listed (home_of before x))) i in
        let b = in_flat (interfaces_at before) m.0 (listed (home_of before x)) m.1 in
        subst (λ (z : TypeExpr). (K z ≡ true) ⊎ Gone z) (sym m.2) (at_splits x h b.0 (in_listed b.0 (home_of before x) b.1) m.0 b.2)

    -- what a kept type names by kept rows is kept
    pub interfaces_kept : (x y : TypeExpr) → K x ≡ true → In y (kept_interfaces_of x) → K y ≡ true
    interfaces_kept x y h i = in_kept K y (interfaces_of before x) (subst (λ (zs : List TypeExpr). In y zs) (sym (interfaces_filtered x h)) i)

    -- ---- they move

    moved_at : (x : TypeExpr) (o : Option RowAt) → ((at : RowAt) → o ≡ Some at → IsTrue (keeps_type_row k.keep before at))
        → flat_map (interfaces_at after) (listed (option_map p.typ o)) ≡ move_exprs k.rho (flat_map (kept_interfaces_at before kept) (listed o))
    moved_at x None h = refl
    moved_at x (Some at) h =
        append_none (interfaces_at after (p.typ at)) ∙ (r.types at (h at refl)).interfaces ∙ ap (move_exprs k.rho) (sym (append_none (kept_interfaces_at before kept at)))

    pub interfaces_moved : (x : TypeExpr) → K x ≡ true → interfaces_of after (move_expr k.rho x) ≡ move_exprs k.rho (kept_interfaces_of x)
    unfolding interfaces_of kept_interfaces_of
    interfaces_moved x h =
        ap (λ (o : Option RowAt). put_in (move_expr k.rho x) (flat_map (interfaces_at after) (listed o))) (home_moved k kept p after before r keeps x h)
        ∙ ap (put_in (move_expr k.rho x)) (moved_at x (home_of before x) (λ at is. home_kept k kept p after before r keeps x at h is))
        ∙ put_list_moved k kept p after before r keeps x (flat_map (kept_interfaces_at before kept) (listed (home_of before x)))
