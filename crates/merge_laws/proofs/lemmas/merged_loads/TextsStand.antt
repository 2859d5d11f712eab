-- The texts of what is left are those that its bodies load, each at its place.
use Rattle.std.proofs.Common.{◌≡◌, ℕ, ◌+◌, ◌<◌, ◌≤◌, ◌^◌, List, [], ◌∷◌, ◌++◌, length, map, Bool, true, false, inl, inr, Option, Some, None, find, refl, sym, ap, subst, ◌∙◌, arith, length-append}
use Rattle.std.specs.Prelude.{slice_get, bytes_eq, ◌&&◌, ◌||◌, if◌then◌else◌}
use Rattle.std.specs.List.{Contains, flat_map, list_any, AllByRecursion}
use Rattle.std.specs.Option.{option_map}
use Rattle.std.proofs.lemmas.Bool.{or_cases, or_right, and_parts, eq-eqb, eqb-true}
use Rattle.il_base.specs.declared.body.Form.{Form}
use Rattle.il_base.specs.declared.body.Form.TheVariants as form
use Rattle.il_base.specs.declared.body.Operand.{Operand}
use Rattle.il_base.specs.declared.body.Operand.TheVariants as operand
use Rattle.il_base.specs.declared.body.Instr.{Instr}
use Rattle.il_base.specs.declared.body.Body.{Body}
use Rattle.il_base.specs.declared.world_model.known.Known.{Known}
use Rattle.il_base.specs.declared.world_model.known.Known.TheVariants.{Good, Bad}
use Rattle.il_base.specs.declared.world_model.members.MethodDefRow.{MethodDefRow}
use Rattle.il_base.specs.declared.world_model.record.UserText.{UserText}
use Rattle.il_base.specs.declared.world_model.record.AsmRec.{AsmRec}
use Rattle.il_base.specs.world_model.Worlds.{known_map}
use Rattle.rules.specs.record_format.Texts.{user_token, is_token, is_ldstr, loads, body_loads, is_loaded}
use Rattle.rules.specs.file_layout.Interning.{place_among}
use Rattle.rules.specs.file_layout.Heaps.{user_item, users_heap, user_place}
use Rattle.rules.specs.declared.link_rules.row_at.RowAt.{RowAt}
use Rattle.rules.specs.link_rules.Members.{methods_in}
use Rattle.rules.specs.link_rules.Cycles.{listed}
use Rattle.rules.specs.type_rules.Rows.{rec_at}
use Rattle.rules.specs.mark_rules.Places.{method_item}
use Rattle.rules.specs.mark_rules.Bodies.{body_of, is_text_of}
use Rattle.rules.specs.merge_rules.Numbers.{kept_methods}
use Rattle.rules.specs.merge_rules.Refs.{Output, first_or}
use Rattle.rules.specs.merge_rules.Moved.{texts_named, texts_by, texts_of_body, texts_of_method, kept_texts, text_token, moved_text, moved_operand, moved_instr, moved_body, moved_method_row}
use Rattle.rules.specs.merge_rules.Restricted.{bodies_of, placed_methods, moved_methods, new_text}
use Rattle.rules.specs.record_layout.Laid.{users_of}
use Rattle.file_laws.specs.written_tables.Written.{IsIn, Once}
use Rattle.file_laws.proofs.lemmas.written_tables.Once.{once_law}
use Rattle.file_laws.specs.layout_laws.Parts.{TextsFit}
use Rattle.file_laws.proofs.lemmas.layout_laws.Lists.{mapped, of_mapped}
use Rattle.file_laws.proofs.lemmas.layout_laws.TextsRead.{items_within}
use Rattle.merge_laws.proofs.lemmas.merged_record.Lists.{none_in, first_in, later_in, one_is, head_or, place_in, to_flat, from_flat, from_map, from_listed, to_listed, from_option, OfInput}
use Rattle.merge_laws.proofs.lemmas.merged_record.Rows.{from_places, from_kept}
use Rattle.merge_laws.proofs.lemmas.merged_record.Sizes.{left}
use Rattle.merge_laws.proofs.lemmas.merged_loads.Lists.{Every, to_place}
use Rattle.merge_laws.proofs.lemmas.merged_loads.FileRows.{UnitsFit}
use Rattle.merge_laws.proofs.lemmas.merged_loads.NewNames.{found}
use Rattle.merge_laws.proofs.lemmas.merged_loads.Addresses.{bodies_placed}

-- ---- tests over lists

pub any_in : {A : Type 0} (p : A → Bool) (xs : List A) (x : A) → Contains xs x → p x ≡ true → list_any p xs ≡ true
any_in p [] x c e = absurd (none_in x c)
any_in p (y ∷ xs) x c e = elim (head_or y xs x c) [
  | inl s ↦ (let h : p y ≡ true = ap p s ∙ e in rw h refl)
  | inr t ↦ or_right (p y) (list_any p xs) (any_in p xs x t e)
]

pub any_from : {A : Type 0} (p : A → Bool) (xs : List A) → list_any p xs ≡ true → (x : A) × Contains xs x × (p x ≡ true)
any_from p [] e = absurd (cc)
any_from p (y ∷ xs) e = elim (or_cases (p y) (list_any p xs) e) [
  | inl h ↦ (y, first_in y xs, h)
  | inr h ↦ (let r = any_from p xs h in (r.0, later_in y xs r.0 r.1, r.2))
]

any_body : (p : Option (Known Body) → Bool) (ms : List MethodDefRow) → list_any (λ (m : MethodDefRow). p m.body) ms ≡ list_any p (bodies_of ms)
any_body p [] = refl
any_body p (m ∷ ms) = ap (λ (b : Bool). p m.body || b) (any_body p ms)

loaded_placed : (ms : List MethodDefRow) (token : ℕ) → is_loaded (placed_methods ms) token ≡ is_loaded ms token
unfolding is_loaded
loaded_placed ms token = any_body (body_loads token) (placed_methods ms) ∙ ap (list_any (body_loads token)) (bodies_placed ms) ∙ sym (any_body (body_loads token) ms)

to_contains : {A B : Type 0} (f : A → B) (xs : List A) (x : A) → Contains xs x → Contains (map f xs) (f x)
to_contains f xs x c = let p = to_place xs x c in place_in (map f xs) p.0 (f x) (mapped f xs p.0 x p.1)

-- ---- bodies

-- the body of a method, where it has a reading
abbrev good_bodies : Known Body → List Body
good_bodies (Good b) = b ∷ []
good_bodies (Bad why) = []

from_bodies : (o : Option (Known Body)) (b : Body) → Contains (flat_map good_bodies (listed o)) b → o ≡ Some (Good b)
from_bodies None b c = absurd (none_in b c)
from_bodies (Some (Good x)) b c = ap (λ (y : Body). Some (Good y)) (one_is x b c)
from_bodies (Some (Bad why)) b c = absurd (none_in b c)

to_bodies : (o : Option (Known Body)) (b : Body) → o ≡ Some (Good b) → Contains (flat_map good_bodies (listed o)) b
to_bodies o b e = subst (λ (x : Option (Known Body)). Contains (flat_map good_bodies (listed x)) b) (sym e) (first_in b [])

-- ---- one instruction

-- it loads this text
record Loaded (rec : AsmRec) (f : Form) (x : Operand) (u : List ℕ) : Type 0 where
  token : ℕ
  is_load : f ≡ form.LdStr
  names : x ≡ operand.Token token
  text : UserText
  found : find (is_text_of token) rec.user ≡ Some text
  is : text.text ≡ u

named_loaded : (rec : AsmRec) (token : ℕ) (u : List ℕ) → Contains (texts_named rec token) u → Loaded rec form.LdStr (operand.Token token) u
named_loaded rec token u c =
    let m = from_map (λ (t : UserText). t.text) (listed (find (is_text_of token) rec.user)) u c in
    record { token = token; is_load = refl; names = refl; text = m.0; found = from_listed (find (is_text_of token) rec.user) m.0 m.1; is = m.2 }

by_loaded : (rec : AsmRec) (f : Form) (x : Operand) (u : List ℕ) → Contains (texts_by rec f x) u → Loaded rec f x u
by_loaded rec form.LdStr (operand.Token token) u c = named_loaded rec token u c
by_loaded rec _ _ u c = absurd (none_in u c)

loaded_by : (rec : AsmRec) (f : Form) (x : Operand) (u : List ℕ) → Loaded rec f x u → Contains (texts_by rec f x) u
loaded_by rec f x u l =
    let named : Contains (texts_named rec l.token) u =
    subst (λ (y : Option UserText). Contains (map (λ (t : UserText). t.text) (listed y)) u) (sym l.found) (subst (λ (v : List ℕ). Contains (l.text.text ∷ []) v) l.is (first_in l.text.text [])) in
    subst (λ (g : Form). Contains (texts_by rec g x) u) (sym l.is_load) (subst (λ (y : Operand). Contains (texts_by rec form.LdStr y) u) (sym l.names) named)

load_is : (f : Form) → is_ldstr f ≡ true → f ≡ form.LdStr
load_is form.LdStr e = refl
load_is _ e = absurd (cc)

moved_found : (o : Output) (rec : AsmRec) (token : ℕ) (t : UserText) → find (is_text_of token) rec.user ≡ Some t → moved_text o rec token ≡ text_token o t.text
moved_found o rec token t e = ap (λ (x : Option UserText). first_or (map (text_token o) (map (λ (s : UserText). s.text) (listed x))) 0) e

module _ (o : Output) where
  -- an instruction that loads a text loads it by its new token
  loads_by : (a : ℕ) (rec : AsmRec) (f : Form) (x : Operand) (u : List ℕ) → Loaded rec f x u → (is_ldstr f && is_token (text_token o u) (moved_operand o a rec f x)) ≡ true
  loads_by a rec f x u l =
      let same : moved_text o rec l.token ≡ text_token o u = moved_found o rec l.token l.text l.found ∙ ap (text_token o) l.is in
      subst (λ (g : Form). (is_ldstr g && is_token (text_token o u) (moved_operand o a rec g x)) ≡ true) (sym l.is_load)
      (subst (λ (y : Operand). (true && is_token (text_token o u) (moved_operand o a rec form.LdStr y)) ≡ true) (sym l.names) (eq-eqb (moved_text o rec l.token) (text_token o u) same))

  loads_moved : (a : ℕ) (rec : AsmRec) (i : Instr) (u : List ℕ) → Loaded rec i.form i.operand u → loads (text_token o u) (moved_instr o a rec i) ≡ true
  unfolding loads
  loads_moved a rec i u l = loads_by a rec i.form i.operand u l

  -- what loads a token of a text loads a text
  record LoadsBy (rec : AsmRec) (f : Form) (x : Operand) (token : ℕ) : Type 0 where
    units : List ℕ
    loaded : Loaded rec f x units
    is : text_token o units ≡ token

  text_by : (rec : AsmRec) (old token : ℕ) (y : Option UserText) → find (is_text_of old) rec.user ≡ y → first_or (map (text_token o) (map (λ (s : UserText). s.text) (listed y))) 0 ≡ token → 0 < token
      → LoadsBy rec form.LdStr (operand.Token old) token
  text_by rec old token None e f some = absurd (omega arith)
  text_by rec old token (Some t) e f some = record { units = t.text; loaded = record { token = old; is_load = refl; names = refl; text = t; found = e; is = refl }; is = f }

  operand_by : (a : ℕ) (rec : AsmRec) (x : Operand) (token : ℕ) → is_token token (moved_operand o a rec form.LdStr x) ≡ true → 0 < token → LoadsBy rec form.LdStr x token
  operand_by a rec (operand.Token old) token e some = text_by rec old token (find (is_text_of old) rec.user) refl (eqb-true (moved_text o rec old) token e) some
  operand_by a rec _ token e some = absurd (cc)

  form_by : (a : ℕ) (rec : AsmRec) (f : Form) (x : Operand) (token : ℕ) → f ≡ form.LdStr → is_token token (moved_operand o a rec f x) ≡ true → 0 < token → LoadsBy rec f x token
  form_by a rec f x token e h some =
      subst (λ (g : Form). LoadsBy rec g x token) (sym e) (operand_by a rec x token (subst (λ (g : Form). is_token token (moved_operand o a rec g x) ≡ true) e h) some)

  from_loads : (a : ℕ) (rec : AsmRec) (i : Instr) (token : ℕ) → loads token (moved_instr o a rec i) ≡ true → 0 < token → LoadsBy rec i.form i.operand token
  unfolding loads
  from_loads a rec i token e some =
      let p = and_parts (is_ldstr i.form) (is_token token (moved_operand o a rec i.form i.operand)) e in
      form_by a rec i.form i.operand token (load_is i.form p.0) p.1 some

  -- ---- one body

  body_from : (a : ℕ) (rec : AsmRec) (b : Option (Known Body)) (token : ℕ) → body_loads token (option_map (known_map (moved_body o a rec)) b) ≡ true → 0 < token
      → (c : Body) × (b ≡ Some (Good c)) × (i : Instr) × Contains c.code i × LoadsBy rec i.form i.operand token
  unfolding moved_body
  body_from a rec None token e some = absurd (cc)
  body_from a rec (Some (Good c)) token e some =
      let r = any_from (loads token) (map (moved_instr o a rec) c.code) e in
      let m = from_map (moved_instr o a rec) c.code r.0 r.1 in
      (c, refl, m.0, m.1, from_loads a rec m.0 token (ap (loads token) m.2 ∙ r.2) some)
  body_from a rec (Some (Bad why)) token e some = absurd (cc)

  body_to : (a : ℕ) (rec : AsmRec) (b : Option (Known Body)) (c : Body) (i : Instr) (u : List ℕ) → b ≡ Some (Good c) → Contains c.code i → Loaded rec i.form i.operand u
      → body_loads (text_token o u) (option_map (known_map (moved_body o a rec)) b) ≡ true
  unfolding moved_body
  body_to a rec b c i u e inside l =
      subst (λ (x : Option (Known Body)). body_loads (text_token o u) (option_map (known_map (moved_body o a rec)) x) ≡ true) (sym e)
      (any_in (loads (text_token o u)) (map (moved_instr o a rec) c.code) (moved_instr o a rec i) (to_contains (moved_instr o a rec) c.code i inside) (loads_moved a rec i u l))

  -- ---- a kept method loads a text

  record Loads (u : List ℕ) : Type 0 where
    at : RowAt
    listed : Contains (kept_methods o.recs o.kept) at
    rec : AsmRec
    there : slice_get o.recs at.asm ≡ Some rec
    row : MethodDefRow
    is : slice_get rec.method_def at.row ≡ Some row
    body : Body
    good : row.body ≡ Some (Good body)
    instr : Instr
    inside : Contains body.code instr
    loaded : Loaded rec instr.form instr.operand u

  abbrev all_texts : List (List ℕ)
  all_texts = flat_map (texts_of_method o.recs) (kept_methods o.recs o.kept)

  from_texts : (u : List ℕ) → Contains all_texts u → Loads u
  from_texts u c =
      let p = from_flat (texts_of_method o.recs) (kept_methods o.recs o.kept) u c in
      let r = from_option (λ (rec : AsmRec). flat_map (λ (m : MethodDefRow). flat_map (texts_of_body rec) (body_of m)) (listed (slice_get rec.method_def p.item.row))) (rec_at o.recs p.item) u p.inside in
      let d = from_option (λ (m : MethodDefRow). flat_map (texts_of_body r.0) (body_of m)) (slice_get r.0.method_def p.item.row) u r.2 in
      let b = from_flat (texts_of_body r.0) (body_of d.0) u d.2 in
      let i = from_flat (λ (i : Instr). texts_by r.0 i.form i.operand) b.item.code u b.inside in
      record {
        at = p.item;
        listed = p.there;
        rec = r.0;
        there = r.1;
        row = d.0;
        is = d.1;
        body = b.item;
        good = from_bodies d.0.body b.item b.there;
        instr = i.item;
        inside = i.there;
        loaded = by_loaded r.0 i.item.form i.item.operand u i.inside;
      }

  to_texts : (u : List ℕ) → Loads u → Contains all_texts u
  to_texts u l =
      to_flat (texts_of_method o.recs) (kept_methods o.recs o.kept) u
      (record {
        item = l.at;
        there = l.listed;
        inside = to_flat (λ (rec : AsmRec). flat_map (λ (m : MethodDefRow). flat_map (texts_of_body rec) (body_of m)) (listed (slice_get rec.method_def l.at.row))) (listed (rec_at o.recs l.at)) u
            (record {
              item = l.rec;
              there = to_listed (rec_at o.recs l.at) l.rec l.there;
              inside = to_flat (λ (m : MethodDefRow). flat_map (texts_of_body l.rec) (body_of m)) (listed (slice_get l.rec.method_def l.at.row)) u
                  (record {
                    item = l.row;
                    there = to_listed (slice_get l.rec.method_def l.at.row) l.row l.is;
                    inside = to_flat (texts_of_body l.rec) (body_of l.row) u
                        (record {
                          item = l.body;
                          there = to_bodies l.row.body l.body l.good;
                          inside = to_flat (λ (i : Instr). texts_by l.rec i.form i.operand) l.body.code u (record { item = l.instr; there = l.inside; inside = loaded_by l.rec l.instr.form l.instr.operand u l.loaded });
                        });
                  });
            });
      })

  -- ---- the methods that are left

  method_in : (u : List ℕ) (l : Loads u) → Contains (moved_methods o) (moved_method_row o l.at l.rec l.row)
  method_in u l =
      to_flat (λ (at : RowAt). flat_map (λ (rec : AsmRec). map (moved_method_row o at rec) (listed (slice_get rec.method_def at.row))) (listed (rec_at o.recs at))) (kept_methods o.recs o.kept) (moved_method_row o l.at l.rec l.row)
      (record {
        item = l.at;
        there = l.listed;
        inside = to_flat (λ (rec : AsmRec). map (moved_method_row o l.at rec) (listed (slice_get rec.method_def l.at.row))) (listed (rec_at o.recs l.at)) (moved_method_row o l.at l.rec l.row)
            (record {
              item = l.rec;
              there = to_listed (rec_at o.recs l.at) l.rec l.there;
              inside = to_contains (moved_method_row o l.at l.rec) (listed (slice_get l.rec.method_def l.at.row)) l.row (to_listed (slice_get l.rec.method_def l.at.row) l.row l.is);
            });
      })

  text_loaded : (u : List ℕ) → Loads u → is_loaded (moved_methods o) (text_token o u) ≡ true
  unfolding is_loaded
  text_loaded u l =
      any_in (λ (m : MethodDefRow). body_loads (text_token o u) m.body) (moved_methods o) (moved_method_row o l.at l.rec l.row) (method_in u l)
      (body_to l.at.asm l.rec l.row.body l.body l.instr u l.good l.inside l.loaded)

  -- a token that a body loads is that of a text
  record IsTextToken (token : ℕ) : Type 0 where
    units : List ℕ
    loads : Loads units
    is : text_token o units ≡ token

  token_loaded : (token : ℕ) → is_loaded (moved_methods o) token ≡ true → 0 < token → IsTextToken token
  unfolding is_loaded
  token_loaded token e some =
      let r = any_from (λ (m : MethodDefRow). body_loads token m.body) (moved_methods o) e in
      let p = from_places o.recs (λ rec. rec.method_def) (moved_method_row o) (kept_methods o.recs o.kept) r.0 r.1 in
      let b = body_from p.at.asm p.rec p.row.body token (ap (λ (m : MethodDefRow). body_loads token m.body) p.made ∙ r.2) some in
      let l = b.4 in
      record {
        units = l.units;
        loads = record { at = p.at; listed = p.listed; rec = p.rec; there = p.there; row = p.row; is = p.is; body = b.0; good = b.1; instr = b.2; inside = b.3; loaded = l.loaded };
        is = l.is;
      }

-- ---- places

place_within : (written : List ℕ → List ℕ) (at : ℕ) (xs : List (List ℕ)) (x : List ℕ) → place_among written at xs x ≤ at + length (flat_map written xs)
unfolding place_among
place_within written at [] x = omega arith
place_within written at (y ∷ ys) x = by_test (bytes_eq y x) (place_within written (at + length (written y)) ys x)
  where
    by_test : (b : Bool) → place_among written (at + length (written y)) ys x ≤ at + length (written y) + length (flat_map written ys)
        → (if b then at else place_among written (at + length (written y)) ys x) ≤ at + length (written y ++ flat_map written ys)
    by_test true le = omega arith
    by_test false le = omega (arith, le, length-append (written y) (flat_map written ys))

-- ---- all of it

module _ (o : Output) (units : (a : ℕ) (rec : AsmRec) → OfInput o.recs a rec → Every UnitsFit rec.user) (short : length (users_heap (kept_texts o)) ≤ 16777216) where
  abbrev texts : List (List ℕ)
  texts = kept_texts o

  once : Once (all_texts o)
  once = once_law (all_texts o)

  from_kept_texts : (u : List ℕ) → IsIn texts u → Loads o u
  unfolding kept_texts
  from_kept_texts u h = let i = once.only u h in from_texts o u (place_in (all_texts o) i.0 u i.1)

  to_kept_texts : (u : List ℕ) → Loads o u → IsIn texts u
  unfolding kept_texts
  to_kept_texts u l = once.all u (to_place (all_texts o) u (to_texts o u l))

  one_place : (j k : ℕ) (u : List ℕ) → slice_get texts j ≡ Some u → slice_get texts k ≡ Some u → j ≡ k
  unfolding kept_texts
  one_place j k u e f = once.once j k u e f

  same_users : (xs : List (List ℕ)) → map (λ (t : UserText). t.text) (map (new_text o) xs) ≡ xs
  same_users [] = refl
  same_users (x ∷ xs) = ap (λ (ys : List (List ℕ)). x ∷ ys) (same_users xs)

  token_is : (u : List ℕ) → text_token o u ≡ user_token (user_place texts u)
  unfolding user_place
  token_is u = let a = place_within user_item 1 texts u in let b = items_within texts in omega (arith, short)

  some_token : (at : ℕ) → 0 < user_token at
  some_token at = omega arith

  units_fit : (u : List ℕ) → Loads o u → AllByRecursion (λ (n : ℕ). n < 2 ^ 16) u
  unfolding kept_methods
  units_fit u l =
      let k = from_kept methods_in (method_item o.recs) o.recs o.kept l.at l.listed in
      let input : OfInput o.recs l.at.asm l.rec = record { there = l.there; within = k.input.within } in
      subst (λ (v : List ℕ). AllByRecursion (λ (n : ℕ). n < 2 ^ 16) v) l.loaded.is (units l.at.asm l.rec input l.loaded.text (found (is_text_of l.loaded.token) l.rec.user l.loaded.text l.loaded.found))

  module _ (internal : Bool) (primary : AsmRec) where
    abbrev out : AsmRec
    out = left internal o primary

    user_in : (k : ℕ) (t : UserText) → slice_get out.user k ≡ Some t → (u : List ℕ) × (slice_get texts k ≡ Some u) × (new_text o u ≡ t)
    user_in k t e = of_mapped (new_text o) texts k t e

    pub texts_stand : TextsFit out
    texts_stand = record {
      units = λ k t e.
          let u = user_in k t e in
          subst (λ (x : UserText). AllByRecursion (λ (n : ℕ). n < 2 ^ 16) x.text) u.2 (units_fit u.0 (from_kept_texts u.0 (k, u.1)));
      tokens = λ k t e.
          let u = user_in k t e in
          subst (λ (x : UserText). x.token ≡ user_token (user_place (users_of out) x.text)) u.2
          (subst (λ (xs : List (List ℕ)). text_token o u.0 ≡ user_token (user_place xs u.0)) (sym (same_users texts)) (token_is u.0));
      once = λ j k t s e f same.
          let u = user_in j t e in
          let v = user_in k s f in
          let alike : u.0 ≡ v.0 = ap (λ (x : UserText). x.text) u.2 ∙ same ∙ sym (ap (λ (x : UserText). x.text) v.2) in
          one_place j k u.0 u.1 (v.1 ∙ ap (λ (x : List ℕ). Some x) (sym alike));
      loaded = λ k t e.
          let u = user_in k t e in
          subst (λ (x : UserText). is_loaded out.method_def x.token ≡ true) u.2
          (loaded_placed (moved_methods o) (text_token o u.0) ∙ text_loaded o u.0 (from_kept_texts u.0 (k, u.1)));
      only = λ at h.
          let t = token_loaded o (user_token at) (sym (loaded_placed (moved_methods o) (user_token at)) ∙ h) (some_token at) in
          let i = to_kept_texts t.units t.loads in
          (i.0, new_text o t.units, mapped (new_text o) texts i.0 t.units i.1, t.is);
    }
