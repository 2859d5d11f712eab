-- The first row of each name.
use Rattle.std.proofs.Common.{◌≡◌, ℕ, suc, ◌+◌, ◌<◌, ◌≤◌, Bool, true, false, List, ◌∷◌, length, drop, get_or, Option, Some, None, refl, sym, ap, ◌∙◌, ◌&&◌, arith, drop-cons}
use Rattle.std.specs.Prelude.{nat_eq, if◌then◌else◌}
use Rattle.std.specs.Option.{option_or, option_eq}
use Rattle.std.proofs.lemmas.List.{drop_all}
use Rattle.il_base.specs.declared.world_model.types.TypeDefRow.{TypeDefRow}
use Rattle.il_base.specs.declared.world_model.record.AsmRec.{AsmRec}
use Rattle.il_base.specs.world_model.Core.{same_name}
use Rattle.rules.specs.link_rules.Types.{encloser, same_place, type_from, type_in}
use Rattle.resolver.specs.declared.type_links.names.TypeKey.{TypeKey}
use Rattle.resolver.specs.type_links.Names.{same_key}
use Rattle.resolver.proofs.lemmas.type_links.Outers.{or_none}

pub first_step : {V : Type 0} (m : Option V) (b c : Bool) (v : V) (rest whole : Option V) → b ≡ c
    → option_or m (if c then Some v else rest) ≡ whole → option_or (option_or m (if b then Some v else None)) rest ≡ whole
first_step (Some w) b c v rest whole same e = e
first_step None true true v rest whole same e = e
first_step None true false v rest whole same e = cc
first_step None false true v rest whole same e = cc
first_step None false false v rest whole same e = e

place_is : (x y : Option ℕ) → option_eq nat_eq x y ≡ same_place x y
place_is None None = refl
place_is None (Some k) = refl
place_is (Some j) None = refl
place_is (Some j) (Some k) = refl

turned : (a b c : Bool) → (a && (b && c)) ≡ (c && b && a)
turned true true true = refl
turned true true false = refl
turned true false true = refl
turned true false false = refl
turned false true true = refl
turned false true false = refl
turned false false true = refl
turned false false false = refl

key_is : (x q : TypeKey) → same_key x q ≡ (same_name x.name.name.now q.name.name.now && same_name x.name.namespace.now q.name.namespace.now && same_place x.around q.around)
key_is x q =
    ap (λ (b : Bool). b && (same_name x.name.namespace.now q.name.namespace.now && same_name x.name.name.now q.name.name.now)) (place_is x.around q.around)
    ∙ turned (same_place x.around q.around) (same_name x.name.namespace.now q.name.namespace.now) (same_name x.name.name.now q.name.name.now)

-- whether a row has a name
abbrev has_key : AsmRec → TypeKey → ℕ → TypeDefRow → Bool
has_key rec q i row = same_name row.name q.name.name.now && same_name row.namespace q.name.namespace.now && same_place (encloser rec i) q.around

-- one row more: its name has it, unless an earlier row has that name
pub row_step : (rec : AsmRec) (rows : List TypeDefRow) (i : ℕ) (row : TypeDefRow) → i < length rows → row ≡ get_or rows i row → (key : TypeKey) → key.around ≡ encloser rec i
    → key.name.namespace.now ≡ row.namespace → key.name.name.now ≡ row.name → (q : TypeKey) (m n whole : Option ℕ) → n ≡ option_or m (if same_key key q then Some i else None)
    → option_or m (type_from rec q.around q.name.namespace.now q.name.name.now i (drop i rows)) ≡ whole
    → option_or n (type_from rec q.around q.name.namespace.now q.name.name.now (i + 1) (drop (i + 1) rows)) ≡ whole
row_step rec rows i row below is key around namespace name q m n whole new old =
    let one : i + 1 ≡ suc i = omega arith in
    let front : drop i rows ≡ row ∷ drop (suc i) rows = drop-cons rows i row below ∙ ap (λ (r : TypeDefRow). r ∷ drop (suc i) rows) (sym is) in
    rw (one, new) (first_step m (same_key key q) (has_key rec q i row) i (type_from rec q.around q.name.namespace.now q.name.name.now (suc i) (drop (suc i) rows)) whole
    (key_is key q ∙ rw (around, namespace, name) refl)
    (ap (λ (rs : List TypeDefRow). option_or m (type_from rec q.around q.name.namespace.now q.name.name.now i rs)) (sym front) ∙ old))

-- at the end of the loop
pub rows_all : (rec : AsmRec) (q : TypeKey) (o : Option ℕ) (i : ℕ) (rows : List TypeDefRow) → length rows ≤ i → rows ≡ rec.type_def
    → option_or o (type_from rec q.around q.name.namespace.now q.name.name.now i (drop i rows)) ≡ type_from rec q.around q.name.namespace.now q.name.name.now 0 rows
    → o ≡ type_in rec q.around q.name.namespace.now q.name.name.now
unfolding type_in
rows_all rec q o i rows past same e =
    sym (or_none o) ∙ ap (λ (rs : List TypeDefRow). option_or o (type_from rec q.around q.name.namespace.now q.name.name.now i rs)) (sym (drop_all i rows past)) ∙ e
    ∙ ap (type_from rec q.around q.name.namespace.now q.name.name.now 0) same
