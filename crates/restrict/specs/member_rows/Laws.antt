-- With what the output refers to, the rows of members are its own.
use Rattle.std.specs.Prelude.{◌≡◌}
use Rattle.rules.specs.merge_rules.Refs.{Output, member_ref_rows, method_spec_rows}
use Rattle.token_keys.specs.signature_rows.Laws.{AreNumberTokens}
use Rattle.reference_rows.specs.key_tokens.Laws.{AreKeysOf}
use Rattle.restrict.specs.declared.member_rows.parts.RowParts.{RowParts}
use Rattle.restrict.specs.member_rows.Rows.{recs_of, member_refs_by, method_specs_by}

-- the world, the tokens by keys and the tokens of types of an output
pub record ArePartsOf (o : Output) (p : RowParts) : Type 0 where
  pub recs : recs_of p ≡ o.recs
  pub keys : AreKeysOf o p.keys
  pub numbers : AreNumberTokens o p.numbers.now

pub record AreMemberRows (o : Output) (p : RowParts) : Type 0 where
  pub member_refs : member_refs_by p ≡ member_ref_rows o
  pub method_specs : method_specs_by p ≡ method_spec_rows o

abbrev pub MemberRowsTell : Type 0
MemberRowsTell = (o : Output) (p : RowParts) → ArePartsOf o p → AreMemberRows o p
