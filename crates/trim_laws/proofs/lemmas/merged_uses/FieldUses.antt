-- What a token of an input that names a field is: a row of its own, or a reference.
use Rattle.std.proofs.Common.{◌≡◌, ◌<◌, ◌+◌, ℕ, suc, Bool, true, false, nat_lt, List, Option, Some, None, refl, sym, subst}
use Rattle.std.specs.Prelude.{slice_get, ◌==◌, if◌then◌else◌}
use Rattle.std.specs.List.{position_from}
use Rattle.std.specs.Option.{option_and_then}
use Rattle.std.proofs.lemmas.Bool.{ltb-true}
use Rattle.il_base.specs.declared.table.TheConstants.{FIELD, MEMBER_REF}
use Rattle.il_base.specs.declared.world_model.known.Known.TheVariants.{Good, Bad}
use Rattle.il_base.specs.declared.world_model.known.BadKind.TheVariants.{Unresolved, Outside}
use Rattle.il_base.specs.declared.world_model.expr.TypeExpr.{TypeExpr}
use Rattle.il_base.specs.declared.world_model.expr.FieldUse.{FieldUse}
use Rattle.il_base.specs.declared.world_model.expr.MemberSig.{MemberSig}
use Rattle.il_base.specs.declared.world_model.expr.MemberSig.TheVariants as member
use Rattle.il_base.specs.declared.world_model.members.MemberRefRow.{MemberRefRow}
use Rattle.il_base.specs.declared.world_model.record.AsmRec.{AsmRec}
use Rattle.il_base.specs.world_model.Tokens.{table_of, index_in}
use Rattle.il_base.specs.world_model.Exprs.{levels}
use Rattle.il_base.specs.world_model.Worlds.{known_then, rows_before, row_below, sig_expr}
use Rattle.rules.specs.link_rules.Types.{at_row}
use Rattle.rules.specs.link_rules.Signatures.{names_at, token_type}
use Rattle.rules.specs.link_rules.Members.{fields_in, Found, find_field, most_levels, field_use, own_type, owns_field, own_member, field_def_use, is_method_sig, parent_of, field_in_parent, field_ref_use}
use Rattle.rules.specs.mark_rules.Naming.{field_def_at, field_ref_at, field_named}
use Rattle.merge_laws.proofs.lemmas.merged_signatures.Reading.{good_then}
use Rattle.trim_laws.proofs.lemmas.merged_uses.Own.{map_from}

module _ (recs : List AsmRec) where
  -- ---- a use of a member that is found

  pub record Used (x : Found) (u : FieldUse) : Type 0 where
    pub low : nat_lt most_levels (levels x.owner) ≡ false
    pub same : record { field = record { 0 = rows_before fields_in recs x.at.asm + x.at.row }; owner = x.owner } ≡ u

  used_by : (x : Found) (u : FieldUse) (b : Bool) → nat_lt most_levels (levels x.owner) ≡ b
      → (if b then Bad (Outside 5) else Good (record { field = record { 0 = rows_before fields_in recs x.at.asm + x.at.row }; owner = x.owner })) ≡ Good u → Used x u
  used_by x u true e h = absurd (cc)
  used_by x u false e h = record { low = e; same = cc }

  pub record UsedFrom (o : Option Found) (u : FieldUse) : Type 0 where
    pub found : Found
    pub finds : o ≡ Some found
    pub used : Used found u

  used_from : (o : Option Found) (u : FieldUse) → field_use recs o ≡ Good u → UsedFrom o u
  used_from None u h = absurd (cc)
  used_from (Some x) u h = record { found = x; finds = refl; used = used_by x u (nat_lt most_levels (levels x.owner)) refl h }

  module _ (a : ℕ) (rec : AsmRec) where
    -- ---- by a reference

    pub record ByReference (u : FieldUse) : Type 0 where
      pub row : MemberRefRow
      pub parent : TypeExpr
      pub reads : token_type recs a rec row.class ≡ Good parent
      pub wanted : TypeExpr
      pub found : Found
      pub finds : find_field recs parent row.name wanted ≡ Some found
      pub used : Used found u

    in_parent : (row : MemberRefRow) (parent : TypeExpr) (s : MemberSig) (u : FieldUse) → token_type recs a rec row.class ≡ Good parent → field_in_parent recs a rec row parent s ≡ Good u → ByReference u
    in_parent row parent (member.Method s) u reads h = absurd (cc)
    in_parent row parent (member.Field s) u reads h =
        let g = good_then (λ (wanted : TypeExpr). field_use recs (find_field recs parent row.name wanted)) (sig_expr (names_at recs a rec) s) u h in
        let f = used_from (find_field recs parent row.name g.from) u g.gives in
        record { row = row; parent = parent; reads = reads; wanted = g.from; found = f.found; finds = f.finds; used = f.used }

    by_kind : (row : MemberRefRow) (u : FieldUse) (b : Bool)
        → (if b then Bad Unresolved else known_then (λ (parent : TypeExpr). known_then (field_in_parent recs a rec row parent) row.signature) (parent_of recs a rec row)) ≡ Good u → ByReference u
    by_kind row u true h = absurd (cc)
    by_kind row u false h =
        let p = good_then (λ (parent : TypeExpr). known_then (field_in_parent recs a rec row parent) row.signature) (parent_of recs a rec row) u h in
        let s = good_then (field_in_parent recs a rec row p.from) row.signature u p.gives in
        in_parent row p.from s.from u p.is s.gives

    by_row : (o : Option MemberRefRow) (u : FieldUse) → field_ref_at recs a rec o ≡ Good u → ByReference u
    unfolding field_ref_use
    by_row None u h = absurd (cc)
    by_row (Some row) u h = by_kind row u (is_method_sig row.signature) h

    -- ---- by its own row

    pub record ByRow (u : FieldUse) : Type 0 where
      pub at : ℕ
      pub below : at < fields_in rec
      pub owner : ℕ
      pub has : position_from (owns_field (suc at)) 0 rec.type_def ≡ Some owner
      pub used : Used (record { at = at_row a at; owner = own_type recs rec (at_row a owner) }) u

    def_by : (j : ℕ) (u : FieldUse) → j < fields_in rec → field_def_use recs a rec j ≡ Good u → ByRow u
    unfolding field_def_use
    def_by j u lt h =
        let f = used_from (own_member recs a rec owns_field j) u h in
        let m = map_from (λ t. record { at = at_row a j; owner = own_type recs rec (at_row a t) }) (position_from (owns_field (suc j)) 0 rec.type_def) f.found f.finds in
        record { at = j; below = lt; owner = m.0; has = m.1; used = subst (λ (x : Found). Used x u) (sym m.2) f.used }

    below_is : (j : ℕ) (u : FieldUse) (b : Bool) → nat_lt j (fields_in rec) ≡ b → field_def_at recs a rec (if b then Some j else None) ≡ Good u → ByRow u
    below_is j u true e h = def_by j u (ltb-true j (fields_in rec) e) h
    below_is j u false e h = absurd (cc)

    def_row : (o : Option ℕ) (u : FieldUse) → field_def_at recs a rec (row_below (fields_in rec) o) ≡ Good u → ByRow u
    def_row None u h = absurd (cc)
    def_row (Some j) u h = below_is j u (nat_lt j (fields_in rec)) refl h

    -- ---- of a token

    pub data ByToken (token : ℕ) (u : FieldUse) : Type 0 where
      own_row : (table_of token == FIELD) ≡ true → ByRow u → ByToken token u
      reference : (table_of token == FIELD) ≡ false → ByReference u → ByToken token u

    token_by : (token : ℕ) (u : FieldUse) (b : Bool) → (table_of token == FIELD) ≡ b
        → (if b then field_def_at recs a rec (row_below (fields_in rec) (index_in FIELD token)) else field_ref_at recs a rec (option_and_then (slice_get rec.member_ref) (index_in MEMBER_REF token))) ≡ Good u → ByToken token u
    token_by token u true e h = own_row e (def_row (index_in FIELD token) u h)
    token_by token u false e h = reference e (by_row (option_and_then (slice_get rec.member_ref) (index_in MEMBER_REF token)) u h)

    pub by_token : (token : ℕ) (u : FieldUse) → field_named recs a rec token ≡ Good u → ByToken token u
    unfolding field_named
    by_token token u h = token_by token u (table_of token == FIELD) refl h
