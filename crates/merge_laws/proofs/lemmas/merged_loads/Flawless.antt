-- A part without a meaning is a flaw of its item.
use Rattle.std.proofs.Common.{◌≡◌, ◌<◌, ◌+◌, ◌-◌, ℕ, zero, suc, List, [], ◌∷◌, ◌++◌, length, Bool, true, false, Option, Some, None, refl, ap, subst, ◌∙◌, arith, eq-eqb}
use Rattle.std.specs.Prelude.{slice_get, nat_lt, ◌==◌, ◌||◌, if◌then◌else◌}
use Rattle.std.specs.List.{Contains, flat_map, list_any}
use Rattle.std.proofs.lemmas.Bool.{ne_eqb, lt-ltb, le-ltb}
use Rattle.std.proofs.lemmas.List.Elements.{Contains-append_left, Contains-append_right}
use Rattle.il_base.specs.declared.ids.FieldId.{FieldId}
use Rattle.il_base.specs.declared.ids.MethodId.{MethodId}
use Rattle.il_base.specs.declared.ids.PropId.{PropId}
use Rattle.il_base.specs.declared.ids.Item.{Item}
use Rattle.il_base.specs.declared.ids.Item.TheVariants as item
use Rattle.il_base.specs.declared.table.TheConstants as table
use Rattle.il_base.specs.declared.sig.Sig.{Sig}
use Rattle.il_base.specs.declared.sig.MethodSig.{MethodSig}
use Rattle.il_base.specs.declared.body.Body.{Body}
use Rattle.il_base.specs.declared.world_model.known.Known.{Known}
use Rattle.il_base.specs.declared.world_model.known.Known.TheVariants.{Good, Bad}
use Rattle.il_base.specs.declared.world_model.members.FieldRow.{FieldRow}
use Rattle.il_base.specs.declared.world_model.members.MethodDefRow.{MethodDefRow}
use Rattle.il_base.specs.declared.world_model.members.PropertyRow.{PropertyRow}
use Rattle.il_base.specs.declared.world_model.extras.FieldRvaRow.{FieldRvaRow}
use Rattle.il_base.specs.declared.world_model.record.AsmRec.{AsmRec}
use Rattle.il_base.specs.world_model.Tokens.{token_of}
use Rattle.il_base.specs.world_model.Worlds.{rows_before}
use Rattle.file_laws.specs.layout_laws.OfFile.{IsKnown, HasReading}
use Rattle.rules.specs.declared.link_rules.row_at.RowAt.{RowAt}
use Rattle.rules.specs.link_rules.Types.{at_row}
use Rattle.rules.specs.link_rules.Members.{home_from}
use Rattle.rules.specs.link_rules.Cycles.{listed}
use Rattle.rules.specs.type_rules.Rows.{rec_at, each_from, each_row, owner_of_field}
use Rattle.rules.specs.type_rules.Slots.{type_of_method}
use Rattle.il_base.specs.declared.outside.TheConstants as outside
use Rattle.rules.specs.mark_rules.Places.{row_of, is_core}
use Rattle.rules.specs.mark_rules.Naming.{Part, sig_parts, method_sig_parts}
use Rattle.rules.specs.mark_rules.Types.{parts_of_field, constraints_of}
use Rattle.rules.specs.mark_rules.Calls.{row_parts, parts_of_method}
use Rattle.rules.specs.mark_rules.Properties.{parts_of_property}
use Rattle.rules.specs.mark_rules.Bodies.{body_of, is_read, body_parts}
use Rattle.rules.specs.mark_rules.Shown.{parts_of_item}
use Rattle.rules.specs.mark_rules.BadItems.{Flaw, flaw, flaw_if, part_flaw, part_flaws, variance_flaws, is_platform, is_interface_body, is_global, is_module_of, body_flaws, method_flaws, data_flaw, flow_flaws, own_flaws, attribute_flaws, flaws_of}
use Rattle.merge_laws.proofs.lemmas.merged_record.Lists.{first_in, to_flat, from_flat, to_listed}

-- ---- lists

to_each : {A B : Type 0} (f : ℕ → A → List B) (i : ℕ) (xs : List A) (k : ℕ) (x : A) (y : B) → slice_get xs k ≡ Some x → Contains (f (i + k) x) y → Contains (each_from f i xs) y
to_each f i [] k x y e c = absurd (cc)
to_each {A} {B} f i (w ∷ xs) zero x y e c =
    let same : x ≡ w = cc in
    let n : i + 0 ≡ i = omega arith in
    Contains-append_left (f i w) (each_from f (suc i) xs) y (subst (λ (z : A). Contains (f i z) y) same (subst (λ (m : ℕ). Contains (f m x) y) n c))
to_each f i (w ∷ xs) (suc k) x y e c =
    let n : i + suc k ≡ suc i + k = omega arith in
    Contains-append_right (f i w) (each_from f (suc i) xs) y (to_each f (suc i) xs k x y e (subst (λ (m : ℕ). Contains (f m x) y) n c))

-- what is made of the one item of an option
pub to_option : {A B : Type 0} (g : A → List B) (o : Option A) (x : A) (y : B) → o ≡ Some x → Contains (g x) y → Contains (flat_map g (listed o)) y
to_option g o x y e c = to_flat g (listed o) y (record { item = x; there = to_listed o x e; inside = c })

-- ---- where an item of a row stands

number_home : (count : AsmRec → ℕ) (recs : List AsmRec) (i a k : ℕ) (rec : AsmRec) → slice_get recs a ≡ Some rec → k < count rec → home_from count i recs (rows_before count recs a + k) ≡ Some (at_row (i + a) k)
unfolding home_from rows_before
number_home count [] i a k rec e lt = absurd (cc)
number_home count (r ∷ recs) i zero k rec e lt =
    let same : r ≡ rec = cc in
    let n : 0 + k ≡ k = omega arith in
    let z : i + 0 ≡ i = omega arith in
    let t : nat_lt k (count r) ≡ true = lt-ltb k (count r) (rw same lt) in
    rw (n, t, z) refl
number_home count (r ∷ recs) i (suc a) k rec e lt =
    let m = rows_before count recs a in
    let t : nat_lt (count r + m + k) (count r) ≡ false = le-ltb (count r + m + k) (count r) (omega arith) in
    let n : count r + m + k - count r ≡ m + k = omega arith in
    let z : i + suc a ≡ suc i + a = omega arith in
    rw (t, n, z) (number_home count recs (suc i) a k rec e lt)

pub own_home : (count : AsmRec → ℕ) (recs : List AsmRec) (at : RowAt) (rec : AsmRec) → slice_get recs at.asm ≡ Some rec → at.row < count rec → home_from count 0 recs (rows_before count recs at.asm + at.row) ≡ Some at
own_home count recs at rec e lt = let z : 0 + at.asm ≡ at.asm = omega arith in number_home count recs 0 at.asm at.row rec e lt ∙ ap (λ (a : ℕ). Some (at_row a at.row)) z

-- it is no item of the core library
pub not_core : (recs : List AsmRec) (i : Item) (at : RowAt) → row_of recs i ≡ Some at → suc at.asm < length recs → is_core recs i ≡ false
unfolding is_core
not_core recs i at home lt =
    ap (λ (x : Option RowAt). list_any (λ (r : RowAt). suc r.asm == length recs) (listed x)) home ∙ ap (λ (b : Bool). b || false) (ne_eqb (suc at.asm) (length recs) (λ e. omega (arith, lt, e)))

-- ---- one part

abbrev pub IsEmpty : {A : Type 0} → List A → Type 0
IsEmpty {A} xs = (x : A) → Contains xs x → ⊥

sig_known : (at : RowAt) (recs : List AsmRec) (a : ℕ) (rec : AsmRec) (place : ℕ) (s : Known Sig) → IsEmpty (flat_map (part_flaw at) (sig_parts recs a rec place s)) → IsKnown s
sig_known at recs a rec place (Good s) h = tt
sig_known at recs a rec place (Bad why) h = absurd (h (flaw at place 0 why) (first_in (flaw at place 0 why) []))

method_sig_known : (at : RowAt) (recs : List AsmRec) (a : ℕ) (rec : AsmRec) (place : ℕ) (s : Known MethodSig) → IsEmpty (flat_map (part_flaw at) (method_sig_parts recs a rec place s)) → IsKnown s
method_sig_known at recs a rec place (Good s) h = tt
method_sig_known at recs a rec place (Bad why) h = absurd (h (flaw at place 0 why) (first_in (flaw at place 0 why) []))

body_known : (at : RowAt) (m : MethodDefRow) (b : Option (Known Body)) → IsEmpty (body_flaws at m b) → HasReading b
body_known at m None h = tt
body_known at m (Some (Good b)) h = tt
body_known at m (Some (Bad why)) h = absurd (h (flaw at (token_of table.METHOD_DEF (suc at.row)) m.bad_at why) (first_in (flaw at (token_of table.METHOD_DEF (suc at.row)) m.bad_at why) []))

-- what is wrong with the bytes of a field
abbrev bytes_flaw : RowAt → ℕ → {A : Type 0} → Known A → List Flaw
bytes_flaw at k (Good x) = []
bytes_flaw at k (Bad why) = flaw at (token_of table.FIELD_RVA (suc k)) 0 why ∷ []

bytes_known : (at : RowAt) (k : ℕ) (b : Known (List ℕ)) → IsEmpty (bytes_flaw at k b) → IsKnown b
bytes_known at k (Good x) h = tt
bytes_known at k (Bad why) h = absurd (h (flaw at (token_of table.FIELD_RVA (suc k)) 0 why) (first_in (flaw at (token_of table.FIELD_RVA (suc k)) 0 why) []))

in_if : {A : Type 0} (b : Bool) (xs : List A) (x : A) → b ≡ true → Contains xs x → Contains (if b then xs else []) x
in_if true xs x e c = c
in_if false xs x e c = absurd (cc)

-- ---- an item without a flaw

module _ (recs : List AsmRec) (at : RowAt) (rec : AsmRec) (there : slice_get recs at.asm ≡ Some rec) where
  module _ (i : Item) (home : row_of recs i ≡ Some at) (none : IsEmpty (flaws_of recs i)) where
    no_part : IsEmpty (part_flaws recs i at)
    unfolding flaws_of
    no_part f c =
        none f
        (to_option (λ (x : RowAt). flat_map (λ (r : AsmRec). part_flaws recs i x ++ own_flaws recs i x r ++ attribute_flaws recs i x r) (listed (rec_at recs x))) (row_of recs i) at f home
        (to_option (λ (r : AsmRec). part_flaws recs i at ++ own_flaws recs i at r ++ attribute_flaws recs i at r) (rec_at recs at) rec f there
        (Contains-append_left (part_flaws recs i at ++ own_flaws recs i at rec) (attribute_flaws recs i at rec) f (Contains-append_left (part_flaws recs i at) (own_flaws recs i at rec) f c))))

    no_own : IsEmpty (own_flaws recs i at rec)
    unfolding flaws_of
    no_own f c =
        none f
        (to_option (λ (x : RowAt). flat_map (λ (r : AsmRec). part_flaws recs i x ++ own_flaws recs i x r ++ attribute_flaws recs i x r) (listed (rec_at recs x))) (row_of recs i) at f home
        (to_option (λ (r : AsmRec). part_flaws recs i at ++ own_flaws recs i at r ++ attribute_flaws recs i at r) (rec_at recs at) rec f there
        (Contains-append_left (part_flaws recs i at ++ own_flaws recs i at rec) (attribute_flaws recs i at rec) f (Contains-append_right (part_flaws recs i at) (own_flaws recs i at rec) f c))))

    -- no part of these has a flaw
    pub no_flaw_in : (parts : List Part) → ((p : Part) → Contains parts p → Contains (parts_of_item recs i at) p) → IsEmpty (flat_map (part_flaw at) parts)
    no_flaw_in parts inside f c =
        let r = from_flat (part_flaw at) parts f c in
        no_part f (to_flat (part_flaw at) (parts_of_item recs i at) f (record { item = r.item; there = inside r.item r.there; inside = r.inside }))

  -- ---- fields

  module _ (n : FieldId) (home : row_of recs (item.Field n) ≡ Some at) (none : IsEmpty (flaws_of recs (item.Field n))) where
    pub field_known : (f : FieldRow) → slice_get rec.field at.row ≡ Some f → IsKnown f.signature
    unfolding parts_of_field
    field_known f e =
        sig_known at recs at.asm rec (token_of table.FIELD (suc at.row)) f.signature
        (no_flaw_in (item.Field n) home none (sig_parts recs at.asm rec (token_of table.FIELD (suc at.row)) f.signature)
        (λ p c.
        to_option (λ (r : AsmRec). flat_map (λ (x : FieldRow). sig_parts recs at.asm r (token_of table.FIELD (suc at.row)) x.signature) (listed (slice_get r.field at.row))) (rec_at recs at) rec p there
        (to_option (λ (x : FieldRow). sig_parts recs at.asm rec (token_of table.FIELD (suc at.row)) x.signature) (slice_get rec.field at.row) f p e c)))

    pub data_known : (k : ℕ) (row : FieldRvaRow) → slice_get rec.field_rva k ≡ Some row → row.field ≡ token_of table.FIELD (suc at.row) → IsKnown row.bytes
    data_known k row e same =
        bytes_known at k row.bytes
        (λ f c.
        let here : Contains (data_flaw at k row) f = in_if (row.field == token_of table.FIELD (suc at.row)) (bytes_flaw at k row.bytes) f (eq-eqb row.field (token_of table.FIELD (suc at.row)) same) c in
        let z : k ≡ 0 + k = omega arith in
        no_own (item.Field n) home none f
        (Contains-append_right (flaw_if (is_module_of recs at.asm (owner_of_field rec at.row)) at (token_of table.FIELD (suc at.row)) outside.GLOBAL_MEMBER) (each_row (data_flaw at) rec.field_rva) f
        (to_each (data_flaw at) 0 rec.field_rva k row f e (subst (λ (m : ℕ). Contains (data_flaw at m row) f) z here))))

  -- ---- methods

  module _ (n : MethodId) (home : row_of recs (item.Method n) ≡ Some at) (none : IsEmpty (flaws_of recs (item.Method n))) (m : MethodDefRow) (is : slice_get rec.method_def at.row ≡ Some m) where
    pub method_known : IsKnown m.signature
    unfolding parts_of_method
    method_known =
        method_sig_known at recs at.asm rec (token_of table.METHOD_DEF (suc at.row)) m.signature
        (no_flaw_in (item.Method n) home none (method_sig_parts recs at.asm rec (token_of table.METHOD_DEF (suc at.row)) m.signature)
        (λ p c.
        to_option (λ (r : AsmRec). flat_map (row_parts recs at r) (listed (slice_get r.method_def at.row))) (rec_at recs at) rec p there
        (to_option (row_parts recs at rec) (slice_get rec.method_def at.row) m p is
        (Contains-append_left (method_sig_parts recs at.asm rec (token_of table.METHOD_DEF (suc at.row)) m.signature ++ constraints_of recs at.asm rec (token_of table.METHOD_DEF (suc at.row)))
        (flat_map (body_parts recs at.asm rec (token_of table.METHOD_DEF (suc at.row)) (is_read m.signature)) (body_of m)) p
        (Contains-append_left (method_sig_parts recs at.asm rec (token_of table.METHOD_DEF (suc at.row)) m.signature) (constraints_of recs at.asm rec (token_of table.METHOD_DEF (suc at.row))) p c)))))

    pub body_has_reading : HasReading m.body
    body_has_reading =
        body_known at m m.body
        (λ f c.
        no_own (item.Method n) home none f
        (Contains-append_left (flat_map (method_flaws recs at rec) (listed (slice_get rec.method_def at.row))) (flow_flaws recs at) f
        (to_option (method_flaws recs at rec) (slice_get rec.method_def at.row) m f is
        (Contains-append_left _ (variance_flaws at rec (token_of table.METHOD_DEF (suc at.row))) f
        (Contains-append_left _ (flaw_if (is_global recs (type_of_method recs at)) at (token_of table.METHOD_DEF (suc at.row)) outside.GLOBAL_MEMBER) f
        (Contains-append_left _ (flaw_if (is_interface_body recs at m) at (token_of table.METHOD_DEF (suc at.row)) outside.INTERFACE_BODY) f
        (Contains-append_left (body_flaws at m m.body) (flaw_if (is_platform m) at (token_of table.METHOD_DEF (suc at.row)) outside.PLATFORM) f c)))))))

  -- ---- properties

  module _ (n : PropId) (home : row_of recs (item.Prop n) ≡ Some at) (none : IsEmpty (flaws_of recs (item.Prop n))) where
    pub property_known : (r : PropertyRow) → slice_get rec.property at.row ≡ Some r → IsKnown r.signature
    unfolding parts_of_property
    property_known r e =
        method_sig_known at recs at.asm rec (token_of table.PROPERTY (suc at.row)) r.signature
        (no_flaw_in (item.Prop n) home none (method_sig_parts recs at.asm rec (token_of table.PROPERTY (suc at.row)) r.signature)
        (λ p c.
        to_option (λ (x : AsmRec). flat_map (λ (y : PropertyRow). method_sig_parts recs at.asm x (token_of table.PROPERTY (suc at.row)) y.signature) (listed (slice_get x.property at.row))) (rec_at recs at) rec p there
        (to_option (λ (y : PropertyRow). method_sig_parts recs at.asm rec (token_of table.PROPERTY (suc at.row)) y.signature) (slice_get rec.property at.row) r p e c)))
