-- The first row that forwards a type of each name.
use Rattle.std.proofs.Common.{◌≡◌, ℕ, suc, ◌+◌, ◌<◌, ◌≤◌, Bool, true, false, List, [], ◌∷◌, length, drop, get_or, Option, Some, None, refl, sym, ap, ◌∙◌, ◌&&◌, arith, drop-cons}
use Rattle.std.specs.Prelude.{◌==◌, if◌then◌else◌}
use Rattle.std.specs.Option.{option_or}
use Rattle.std.proofs.lemmas.List.{drop_all}
use Rattle.il_base.specs.declared.world_model.types.ExportedTypeRow.{ExportedTypeRow}
use Rattle.il_base.specs.declared.world_model.record.AsmRec.{AsmRec}
use Rattle.il_base.specs.world_model.Tokens.{table_of, index_in}
use Rattle.il_base.specs.world_model.Core.{same_name}
use Rattle.rules.specs.link_rules.Types.{is_forwarded, forwarder_in}
use Rattle.resolver.specs.declared.type_links.names.TypeName.{TypeName}
use Rattle.resolver.specs.type_links.Names.{same_type_name}
use Rattle.resolver.specs.type_links.Forwarding.{inner}
use Rattle.resolver.proofs.lemmas.type_links.Outers.{or_none, outer_case}
use Rattle.resolver.proofs.lemmas.type_links.Named.{first_step}

abbrev pub first_forwarder : TypeName → List ExportedTypeRow → Option (Option ℕ)
first_forwarder q [] = None
first_forwarder q (row ∷ rows) = if is_forwarded q.namespace.now q.name.now row then Some (index_in 0x23 row.implementation) else first_forwarder q rows

forwarder_is : (q : TypeName) (rows : List ExportedTypeRow) → inner (first_forwarder q rows) ≡ forwarder_in q.namespace.now q.name.now rows
forwarder_is q [] = refl
forwarder_is q (row ∷ rows) =
    outer_case (is_forwarded q.namespace.now q.name.now row) (index_in 0x23 row.implementation) (first_forwarder q rows) (forwarder_in q.namespace.now q.name.now rows) (forwarder_is q rows)

-- a row of another table forwards nothing
not_forwarded : (a b c : Bool) → c ≡ false → (a && b && c) ≡ false
not_forwarded true true c e = e
not_forwarded true false c e = refl
not_forwarded false b c e = refl

both_forwarded : (a b c : Bool) → c ≡ true → (b && a) ≡ (a && b && c)
both_forwarded true true c e = sym e
both_forwarded true false c e = refl
both_forwarded false true c e = refl
both_forwarded false false c e = refl

pub forwarder_step : (rows : List ExportedTypeRow) (i : ℕ) (row : ExportedTypeRow) → i < length rows → row ≡ get_or rows i row → (key : TypeName) → key.namespace.now ≡ row.namespace
    → key.name.now ≡ row.name → (table_of row.implementation == 0x23) ≡ true → (q : TypeName) (m n whole : Option (Option ℕ))
    → n ≡ option_or m (if same_type_name key q then Some (index_in 0x23 row.implementation) else None) → option_or m (first_forwarder q (drop i rows)) ≡ whole
    → option_or n (first_forwarder q (drop (i + 1) rows)) ≡ whole
forwarder_step rows i row below is key namespace name table q m n whole new old =
    let one : i + 1 ≡ suc i = omega arith in
    let front : drop i rows ≡ row ∷ drop (suc i) rows = drop-cons rows i row below ∙ ap (λ (r : ExportedTypeRow). r ∷ drop (suc i) rows) (sym is) in
    rw (one, new) (first_step m (same_type_name key q) (is_forwarded q.namespace.now q.name.now row) (index_in 0x23 row.implementation) (first_forwarder q (drop (suc i) rows)) whole
    (rw (namespace, name) (both_forwarded (same_name row.name q.name.now) (same_name row.namespace q.namespace.now) (table_of row.implementation == 0x23) table))
    (ap (λ (rs : List ExportedTypeRow). option_or m (first_forwarder q rs)) (sym front) ∙ old))

skipped : (b : Bool) (m : Option (Option ℕ)) (x : Option ℕ) (rest whole : Option (Option ℕ)) → b ≡ false → option_or m (if b then Some x else rest) ≡ whole → option_or m rest ≡ whole
skipped true m x rest whole e h = cc
skipped false m x rest whole e h = h

pub forwarder_skip : (rows : List ExportedTypeRow) (i : ℕ) (row : ExportedTypeRow) → i < length rows → row ≡ get_or rows i row → (table_of row.implementation == 0x23) ≡ false
    → (q : TypeName) (m whole : Option (Option ℕ)) → option_or m (first_forwarder q (drop i rows)) ≡ whole → option_or m (first_forwarder q (drop (i + 1) rows)) ≡ whole
forwarder_skip rows i row below is table q m whole old =
    let one : i + 1 ≡ suc i = omega arith in
    let front : drop i rows ≡ row ∷ drop (suc i) rows = drop-cons rows i row below ∙ ap (λ (r : ExportedTypeRow). r ∷ drop (suc i) rows) (sym is) in
    rw one (skipped (is_forwarded q.namespace.now q.name.now row) m (index_in 0x23 row.implementation) (first_forwarder q (drop (suc i) rows)) whole
    (not_forwarded (same_name row.name q.name.now) (same_name row.namespace q.namespace.now) (table_of row.implementation == 0x23) table)
    (ap (λ (rs : List ExportedTypeRow). option_or m (first_forwarder q rs)) (sym front) ∙ old))

-- at the end of the loop
pub forwarders_all : (rec : AsmRec) (q : TypeName) (o : Option (Option ℕ)) (i : ℕ) (rows : List ExportedTypeRow) → length rows ≤ i → rows ≡ rec.exported_type
    → option_or o (first_forwarder q (drop i rows)) ≡ first_forwarder q rows → inner o ≡ forwarder_in q.namespace.now q.name.now rec.exported_type
forwarders_all rec q o i rows past same e =
    ap inner (sym (or_none o) ∙ ap (λ (rs : List ExportedTypeRow). option_or o (first_forwarder q rs)) (sym (drop_all i rows past)) ∙ e)
    ∙ forwarder_is q rows ∙ ap (forwarder_in q.namespace.now q.name.now) same
