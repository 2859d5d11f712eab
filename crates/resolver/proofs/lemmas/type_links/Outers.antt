-- The encloser of each type, by the first of its rows.
use Rattle.std.proofs.Common.{◌≡◌, ℕ, suc, ◌≤◌, Bool, true, false, List, [], ◌∷◌, length, drop, Option, Some, None, refl, sym, ap, ◌∙◌}
use Rattle.std.specs.Prelude.{◌==◌, nat_eq, if◌then◌else◌}
use Rattle.std.specs.HashMap.{get}
use Rattle.std.specs.Option.{option_or}
use Rattle.std.proofs.lemmas.List.{drop_all}
use Rattle.il_base.specs.declared.world_model.types.NestedClassRow.{NestedClassRow}
use Rattle.il_base.specs.declared.world_model.record.AsmRec.{AsmRec}
use Rattle.il_base.specs.world_model.Tokens.{token_of, index_in}
use Rattle.rules.specs.link_rules.Types.{encloser_in, encloser}
use Rattle.resolver.specs.declared.type_links.enclosers.Enclosers.{Enclosers}
use Rattle.resolver.specs.type_links.Nesting.{AreEnclosers}
use Rattle.resolver.specs.type_links.Forwarding.{inner}

abbrev pub outer_in : ℕ → List NestedClassRow → Option (Option ℕ)
outer_in token [] = None
outer_in token (row ∷ rows) = if row.nested_class == token then Some (index_in 0x02 row.enclosing_class) else outer_in token rows

pub outer_case : (b : Bool) (row : Option ℕ) (rest : Option (Option ℕ)) (found : Option ℕ) → inner rest ≡ found
    → inner (if b then Some row else rest) ≡ (if b then row else found)
outer_case true row rest found e = refl
outer_case false row rest found e = e

outer_is : (token : ℕ) (rows : List NestedClassRow) → inner (outer_in token rows) ≡ encloser_in token rows
outer_is token [] = refl
outer_is token (row ∷ rows) =
    outer_case (row.nested_class == token) (index_in 0x02 row.enclosing_class) (outer_in token rows) (encloser_in token rows) (outer_is token rows)

pub or_none : {A : Type 0} (o : Option A) → option_or o None ≡ o
or_none None = refl
or_none (Some x) = refl

-- at the end of the loop over the rows
pub outers_all : (rec : AsmRec) (e : Enclosers) (i : ℕ) (rows : List NestedClassRow) → length rows ≤ i → rows ≡ rec.nested_class
    → ((q : ℕ) → option_or (get nat_eq e.rows q) (outer_in q (drop i rows)) ≡ outer_in q rows) → AreEnclosers rec e
unfolding encloser
outers_all rec e i rows past same all k =
    let q : ℕ = token_of 0x02 (suc k) in
    ap inner (sym (or_none (get nat_eq e.rows q)) ∙ ap (λ (rs : List NestedClassRow). option_or (get nat_eq e.rows q) (outer_in q rs)) (sym (drop_all i rows past)) ∙ all q)
    ∙ outer_is q rows ∙ ap (encloser_in q) same
