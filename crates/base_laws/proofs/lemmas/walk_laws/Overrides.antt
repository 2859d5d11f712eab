-- A chain of overrides goes up the bases of the types whose methods they are.
use Rattle.std.proofs.Common.{◌≡◌, ℕ, zero, suc, ◌+◌, ◌≤◌, Bool, true, false, List, [], Option, Some, None, refl, sym, ap, subst, ◌∙◌, arith}
use Rattle.std.specs.Prelude.{slice_get, not, if◌then◌else◌}
use Rattle.std.specs.List.{position_from}
use Rattle.std.specs.Option.{option_map, option_and_then}
use Rattle.std.proofs.lemmas.Bool.{and_parts}
use Rattle.il_base.specs.declared.world_model.known.Known.{Known}
use Rattle.il_base.specs.declared.world_model.known.Known.TheVariants.{Good, Bad}
use Rattle.il_base.specs.declared.world_model.expr.TypeExpr.{TypeExpr}
use Rattle.il_base.specs.declared.world_model.types.TypeDefRow.{TypeDefRow}
use Rattle.il_base.specs.declared.world_model.members.MethodDefRow.{MethodDefRow}
use Rattle.il_base.specs.declared.world_model.record.AsmRec.{AsmRec}
use Rattle.il_base.specs.world_model.Core.{same_name}
use Rattle.rules.specs.declared.link_rules.row_at.RowAt.{RowAt}
use Rattle.rules.specs.declared.link_rules.member_type.MethodType.{MethodType}
use Rattle.rules.specs.link_rules.Types.{at_row}
use Rattle.rules.specs.link_rules.Members.{args_of, base_at, bases_from, type_count, find_in_run, owns_method}
use Rattle.rules.specs.link_rules.Cycles.{home_of, base_rows}
use Rattle.rules.specs.link_rules.Linked.{assemblies, link_fault_of}
use Rattle.rules.specs.type_rules.Slots.{is_virtual, is_new_slot, method_row_at, type_of_method, type_of_row, is_match, match_in_row, match_in, nearest, inherited_by, inherited, slot_by, slot_of_row, slot_within, slot_of}
use Rattle.base_laws.specs.walk_laws.Walks.{InRuns, SlotsWhole, SlotsFound, SlotsOfSlots}
use Rattle.base_laws.proofs.lemmas.type_laws.Within.{In}
use Rattle.base_laws.proofs.lemmas.type_laws.Reaching.{Leads, Walks}
use Rattle.base_laws.proofs.lemmas.type_laws.Places.{IsType, id_below, home_at, place_within}
use Rattle.base_laws.proofs.lemmas.type_laws.Upwards.{ways, to_base, step_base}
use Rattle.base_laws.proofs.lemmas.type_laws.Ways.{top, top_type, no_long_way}
use Rattle.base_laws.proofs.lemmas.walk_laws.Chains.{shorter, raised}
use Rattle.base_laws.proofs.lemmas.walk_laws.Finds.{found, finds, in_run, nearest_is, defined}
use Rattle.base_laws.proofs.lemmas.walk_laws.Bases.{among}
use Rattle.base_laws.proofs.lemmas.walk_laws.MethodRuns.{AreApart, all_apart}

-- ---- the slot of a slot

module _ (recs : List AsmRec) where
  abbrev chosen : (RowAt → Option RowAt) → RowAt → Bool → Bool → Option RowAt → Option RowAt
  chosen above at v w i = if not v then None else (if w then Some at else slot_by above at i)

  chosen_is : (n : ℕ) (at : RowAt) (m : MethodDefRow) (v w : Bool) (i : Option RowAt) → method_row_at recs at ≡ Some m → is_virtual m ≡ v → is_new_slot m ≡ w → inherited recs at m ≡ i
      → slot_within recs (suc n) at ≡ chosen (slot_within recs n) at v w i
  unfolding slot_within
  chosen_is n at m v w i there e f g =
      ap (option_and_then (slot_of_row recs (slot_within recs n) at)) there ∙ (λ j. chosen (slot_within recs n) at (e j) (f j) (g j))

  again_by : (n k : ℕ) (at s : RowAt) (m : MethodDefRow) (v w : Bool) (i : Option RowAt) → method_row_at recs at ≡ Some m → is_virtual m ≡ v → is_new_slot m ≡ w → inherited recs at m ≡ i
      → ((b : RowAt) → slot_within recs n b ≡ Some s → slot_within recs (suc k) s ≡ Some s) → chosen (slot_within recs n) at v w i ≡ Some s → slot_within recs (suc k) s ≡ Some s
  again_by n k at s m false w i there e f g more h = cc
  again_by n k at s m true true i there e f g more h =
      let same : at ≡ s = cc in subst (λ (x : RowAt). slot_within recs (suc k) x ≡ Some x) same (chosen_is k at m true true i there e f g)
  again_by n k at s m true false None there e f g more h =
      let same : at ≡ s = cc in subst (λ (x : RowAt). slot_within recs (suc k) x ≡ Some x) same (chosen_is k at m true false None there e f g)
  again_by n k at s m true false (Some b) there e f g more h = more b h

  again_row : (n k : ℕ) (at s : RowAt) (o : Option MethodDefRow) → method_row_at recs at ≡ o → ((b : RowAt) → slot_within recs n b ≡ Some s → slot_within recs (suc k) s ≡ Some s)
      → option_and_then (slot_of_row recs (slot_within recs n) at) o ≡ Some s → slot_within recs (suc k) s ≡ Some s
  again_row n k at s None there more h = cc
  again_row n k at s (Some m) there more h = again_by n k at s m (is_virtual m) (is_new_slot m) (inherited recs at m) there refl refl refl more h

  again : (n k : ℕ) (at s : RowAt) → slot_within recs n at ≡ Some s → slot_within recs (suc k) s ≡ Some s
  unfolding slot_within
  again zero k at s h = cc
  again (suc n) k at s h = again_row n k at s (method_row_at recs at) refl (λ b. again n k b s) h

pub slot_again : SlotsOfSlots
unfolding slot_of
slot_again recs at slot h = again recs (suc (type_count recs)) (type_count recs) at slot h

-- ---- what a method inherits

module _ (recs : List AsmRec) where
  -- from a base of its type
  pub record Inherits (at : RowAt) (b : RowAt) : Type 0 where
    pub owner : RowAt
    pub owner_is : type_of_method recs at ≡ Some owner
    pub base : TypeExpr
    pub base_is : base_at recs owner ≡ Some base
    pub of : TypeExpr
    pub above : In of (bases_from recs (type_count recs) base)
    pub name : List ℕ
    pub wanted : MethodType
    pub has : match_in recs is_virtual name wanted of ≡ Some b

  by_base : (at b owner : RowAt) (name : List ℕ) (wanted : MethodType) (o : Option TypeExpr) → type_of_method recs at ≡ Some owner → base_at recs owner ≡ o
      → nearest (match_in recs is_virtual name wanted) (elim o [ None ↦ [] | Some x ↦ bases_from recs (type_count recs) x ]) ≡ Some b → Inherits at b
  unfolding nearest
  by_base at b owner name wanted None f g h = cc
  by_base at b owner name wanted (Some x) f g h =
      let n = nearest_is (match_in recs is_virtual name wanted) (bases_from recs (type_count recs) x) b h in
      record { owner = owner; owner_is = f; base = x; base_is = g; of = n.0; above = n.1; name = name; wanted = wanted; has = n.2 }

  by_type : (at b owner : RowAt) (m : MethodDefRow) (k : Option (Known MethodType)) → type_of_method recs at ≡ Some owner → inherited_by recs owner m k ≡ Some b → Inherits at b
  by_type at b owner m None f h = cc
  by_type at b owner m (Some (Bad why)) f h = cc
  by_type at b owner m (Some (Good wanted)) f h = by_base at b owner m.name wanted (base_at recs owner) f refl h

  by_owner : (at b : RowAt) (m : MethodDefRow) (o : Option RowAt) → type_of_method recs at ≡ o → option_and_then (λ (owner : RowAt). inherited_by recs owner m (type_of_row recs at)) o ≡ Some b → Inherits at b
  by_owner at b m None f h = cc
  by_owner at b m (Some owner) f h = by_type at b owner m (type_of_row recs at) f h

  pub inherits : (at b : RowAt) (m : MethodDefRow) → inherited recs at m ≡ Some b → Inherits at b
  unfolding inherited
  inherits at b m h = by_owner at b m (type_of_method recs at) refl h

  -- ---- the method that it inherits

  module _ (right : AreApart recs) where
    record Has (of : TypeExpr) (b : RowAt) : Type 0 where
      home : RowAt
      is : home_of recs of ≡ Some home
      owner : type_of_method recs b ≡ Some home
      row : MethodDefRow
      there : method_row_at recs b ≡ Some row
      virtual : is_virtual row ≡ true

    pub owner_by : (home : RowAt) (k : ℕ) (rec : AsmRec) (t : TypeDefRow) → slice_get recs home.asm ≡ Some rec → slice_get rec.type_def home.row ≡ Some t → owns_method (suc k) t ≡ true
        → type_of_method recs (at_row home.asm k) ≡ Some home
    owner_by home k rec t there at owns =
        let f = finds (owns_method (suc k)) 0 rec.type_def home.row t at owns in
        let g = found (owns_method (suc k)) 0 rec.type_def f.0 f.1 in
        let same : g.place ≡ home.row = right.apart home.asm g.place home.row (suc k) rec g.item t there g.there at g.passes owns in
        let place : f.0 ≡ home.row = omega (arith, g.is, same) in
        ap (option_and_then (λ (r : AsmRec). option_map (at_row home.asm) (position_from (owns_method (suc k)) 0 r.type_def))) there
        ∙ ap (option_map (at_row home.asm)) f.1 ∙ ap (λ (j : ℕ). Some (at_row home.asm j)) place

    has_by : (of : TypeExpr) (b home : RowAt) (rec : AsmRec) (t : TypeDefRow) (name : List ℕ) (wanted : MethodType) (o : Option ℕ) → home_of recs of ≡ Some home → slice_get recs home.asm ≡ Some rec
        → slice_get rec.type_def home.row ≡ Some t → find_in_run (is_match recs is_virtual home.asm rec (args_of of) name wanted) t.method_list_first t.method_list_end rec.method_def ≡ o
        → option_map (at_row home.asm) o ≡ Some b → Has of b
    has_by of b home rec t name wanted None is there at f h = cc
    has_by of b home rec t name wanted (Some k) is there at f h =
        let same : at_row home.asm k ≡ b = cc in
        let test = is_match recs is_virtual home.asm rec (args_of of) name wanted in
        let r = in_run test t.method_list_first t.method_list_end rec.method_def k (right.begin home.asm home.row rec t there at) f in
        subst (Has of) same (record {
          home = home;
          is = is;
          owner = owner_by home k rec t there at r.in_run;
          row = r.item;
          there = ap (option_and_then (λ (x : AsmRec). slice_get x.method_def k)) there ∙ r.there;
          virtual = (and_parts (is_virtual r.item) _ (and_parts (same_name r.item.name name) _ r.passes).1).0;
        })

    has : (of : TypeExpr) (b : RowAt) (name : List ℕ) (wanted : MethodType) → match_in recs is_virtual name wanted of ≡ Some b → Has of b
    unfolding match_in
    has of b name wanted h =
        let d = defined recs (match_in_row recs is_virtual (args_of of) name wanted) of b h in
        has_by of b d.home d.rec d.row name wanted _ d.is d.there d.at refl d.found

-- ---- chains of overrides

prepended : {A : Type 0} (next : A → List A) (j n : ℕ) (x y : A) → Leads next j x y → Walks next n y → Walks next (j + n) x
prepended next zero n x y l w = let e : 0 + n ≡ n = omega arith in subst (λ (k : ℕ). Walks next k x) (sym e) (subst (Walks next n) (sym l) w)
prepended next (suc j) n x y l w =
    let e : suc j + n ≡ suc (j + n) = omega arith in subst (λ (k : ℕ). Walks next k x) (sym e) (l.0, l.1, prepended next j n l.0 y l.2 w)

module _ (inputs : List AsmRec) (sound : link_fault_of inputs ≡ None) (right : AreApart (assemblies inputs)) where
  abbrev recs : List AsmRec
  recs = assemblies inputs

  abbrev object : RowAt
  object = top inputs sound

  record Override (at b : RowAt) : Type 0 where
    owner : RowAt
    owner_is : type_of_method recs at ≡ Some owner
    home : RowAt
    home_is : type_of_method recs b ≡ Some home
    steps : ℕ
    leads : Leads (base_rows recs) (suc steps) owner home
    row : MethodDefRow
    there : method_row_at recs b ≡ Some row
    virtual : is_virtual row ≡ true

  override : (at b : RowAt) (m : MethodDefRow) → inherited recs at m ≡ Some b → Override at b
  override at b m h =
      let i = inherits recs at b m h in
      let x = has recs right i.of b i.name i.wanted i.has in
      let w = among inputs sound (type_count recs) i.base i.of x.home i.above x.is in
      record {
        owner = i.owner;
        owner_is = i.owner_is;
        home = x.home;
        home_is = x.owner;
        steps = w.steps;
        leads = (w.home, step_base recs i.owner w.home i.base i.base_is w.is, w.leads);
        row = x.row;
        there = x.there;
        virtual = x.virtual;
      }

  abbrev Chain : ℕ → RowAt → Type 0
  Chain zero at = Unit {0}
  Chain (suc n) at = (b : RowAt) × (m : MethodDefRow) × (inherited recs at m ≡ Some b) × Chain n b

  record Climb (n : ℕ) (at : RowAt) : Type 0 where
    owner : RowAt
    is : type_of_method recs at ≡ Some owner
    walks : Walks (ways recs object) n owner

  climb : (n : ℕ) (at : RowAt) → Chain (suc n) at → Climb (suc n) at
  climb zero at c =
      let o = override at c.0 c.1 c.2 in
      record { owner = o.owner; is = o.owner_is; walks = (o.leads.0, to_base recs object o.owner o.leads.0 o.leads.1, tt) }
  climb (suc n) at c =
      let o = override at c.0 c.1 c.2 in
      let m = climb n c.0 c.3 in
      let same : m.owner ≡ o.home = (let f : Some m.owner ≡ Some o.home = sym m.is ∙ o.home_is in cc) in
      let up : Leads (ways recs object) (suc o.steps) o.owner o.home = raised (base_rows recs) (ways recs object) (to_base recs object) (suc o.steps) o.owner o.home o.leads in
      let more : Walks (ways recs object) (suc n) o.home = subst (Walks (ways recs object) (suc n)) same m.walks in
      record {
        owner = o.owner;
        is = o.owner_is;
        walks = shorter (ways recs object) (suc (suc n)) (suc o.steps + suc n) o.owner (omega arith) (prepended (ways recs object) (suc o.steps) (suc n) o.owner o.home up more);
      }

  -- ---- who owns a method is a type

  owner_in : (a k : ℕ) (rec : AsmRec) (owner : RowAt) (o : Option ℕ) → slice_get recs a ≡ Some rec → position_from (owns_method (suc k)) 0 rec.type_def ≡ o → option_map (at_row a) o ≡ Some owner → IsType recs owner
  owner_in a k rec owner None there f h = cc
  owner_in a k rec owner (Some j) there f h =
      let same : at_row a j ≡ owner = cc in
      let g = found (owns_method (suc k)) 0 rec.type_def j f in
      let place : g.place ≡ j = omega (arith, g.is) in
      let in_rec : slice_get rec.type_def j ≡ Some g.item = subst (λ (i : ℕ). slice_get rec.type_def i ≡ Some g.item) place g.there in
      subst (IsType recs) same (home_at recs 0 a j rec there (place_within rec.type_def j g.item in_rec) ∙ ap (λ (i : ℕ). Some (at_row i j)) (omega arith))

  owner_at : (at owner : RowAt) (o : Option AsmRec) → slice_get recs at.asm ≡ o
      → option_and_then (λ (rec : AsmRec). option_map (at_row at.asm) (position_from (owns_method (suc at.row)) 0 rec.type_def)) o ≡ Some owner → IsType recs owner
  owner_at at owner None there h = cc
  owner_at at owner (Some rec) there h = owner_in at.asm at.row rec owner (position_from (owns_method (suc at.row)) 0 rec.type_def) there refl h

  owner_is_type : (at owner : RowAt) → type_of_method recs at ≡ Some owner → IsType recs owner
  owner_is_type at owner h = owner_at at owner (slice_get recs at.asm) refl h

  no_chain_by : (n : ℕ) (at : RowAt) → type_count recs ≡ n → Chain n at → ⊥
  no_chain_by zero at z c = let lt = id_below recs object (top_type inputs sound) in omega (arith, z)
  no_chain_by (suc n) at z c =
      let m = climb n at c in
      no_long_way inputs sound m.owner (owner_is_type at m.owner m.is) (subst (λ (k : ℕ). Walks (ways recs object) k m.owner) (sym z) m.walks)

  -- ---- a greater bound

  grown_by : (n k : ℕ) (at : RowAt) (m : MethodDefRow) (v w : Bool) (i : Option RowAt) → inherited recs at m ≡ i → (Chain (suc n) at → ⊥) → ((b : RowAt) → (Chain n b → ⊥) → slot_within recs k b ≡ slot_within recs n b)
      → chosen recs (slot_within recs k) at v w i ≡ chosen recs (slot_within recs n) at v w i
  grown_by n k at m false w i g none more = refl
  grown_by n k at m true true i g none more = refl
  grown_by n k at m true false None g none more = refl
  grown_by n k at m true false (Some b) g none more = more b (λ c. none (b, m, g, c))

  grown_row : (n k : ℕ) (at : RowAt) (o : Option MethodDefRow) → (Chain (suc n) at → ⊥) → ((b : RowAt) → (Chain n b → ⊥) → slot_within recs k b ≡ slot_within recs n b)
      → option_and_then (slot_of_row recs (slot_within recs k) at) o ≡ option_and_then (slot_of_row recs (slot_within recs n) at) o
  grown_row n k at None none more = refl
  grown_row n k at (Some m) none more = grown_by n k at m (is_virtual m) (is_new_slot m) (inherited recs at m) refl none more

  grown : (n k : ℕ) (at : RowAt) → n ≤ k → (Chain n at → ⊥) → slot_within recs k at ≡ slot_within recs n at
  unfolding slot_within
  grown zero k at le none = absurd (none tt)
  grown (suc n) zero at le none = absurd (omega arith)
  grown (suc n) (suc k) at le none = grown_row n k at (method_row_at recs at) none (λ b. grown n k b (omega arith))

  abbrev count : ℕ
  count = type_count recs

  no_chain : (at : RowAt) → Chain count at → ⊥
  no_chain at c = no_chain_by count at refl c

  whole : (n : ℕ) (at : RowAt) → suc count ≤ n → slot_within recs n at ≡ slot_of recs at
  unfolding slot_of
  whole n at le = grown count n at (omega arith) (no_chain at) ∙ sym (grown count (suc count) at (omega arith) (no_chain at))

  -- ---- a virtual method has a slot

  found_here : (n : ℕ) (at : RowAt) (m : MethodDefRow) (w : Bool) (i : Option RowAt) → (Chain (suc n) at → ⊥) → method_row_at recs at ≡ Some m → is_virtual m ≡ true → is_new_slot m ≡ w → inherited recs at m ≡ i
      → ((b : RowAt) (x : MethodDefRow) → (Chain n b → ⊥) → method_row_at recs b ≡ Some x → is_virtual x ≡ true → (slot : RowAt) × (slot_within recs n b ≡ Some slot))
      → (slot : RowAt) × (slot_within recs (suc n) at ≡ Some slot)
  found_here n at m true i none there virtual f g more = (at, chosen_is recs n at m true true i there virtual f g)
  found_here n at m false None none there virtual f g more = (at, chosen_is recs n at m true false None there virtual f g)
  found_here n at m false (Some b) none there virtual f g more =
      let o = override at b m g in
      let s = more b o.row (λ c. none (b, m, g, c)) o.there o.virtual in
      (s.0, chosen_is recs n at m true false (Some b) there virtual f g ∙ s.1)

  slot_found : (n : ℕ) (at : RowAt) (m : MethodDefRow) → (Chain n at → ⊥) → method_row_at recs at ≡ Some m → is_virtual m ≡ true → (slot : RowAt) × (slot_within recs n at ≡ Some slot)
  slot_found zero at m none there virtual = absurd (none tt)
  slot_found (suc n) at m none there virtual = found_here n at m (is_new_slot m) (inherited recs at m) none there virtual refl refl (λ b x. slot_found n b x)

  pub has_slot_found : (at : RowAt) (m : MethodDefRow) → method_row_at recs at ≡ Some m → is_virtual m ≡ true → (slot : RowAt) × (slot_of recs at ≡ Some slot)
  unfolding slot_of
  has_slot_found at m there virtual =
      let f = slot_found count at m (no_chain at) there virtual in
      (f.0, grown count (suc count) at (omega arith) (no_chain at) ∙ f.1)

pub all_whole : InRuns SlotsWhole
all_whole inputs sound runs = whole inputs sound (all_apart inputs runs)

pub all_found : InRuns SlotsFound
all_found inputs sound runs = has_slot_found inputs sound (all_apart inputs runs)
