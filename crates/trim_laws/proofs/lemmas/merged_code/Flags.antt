-- The flags of a method that a merge writes are those that are looked at: it takes one away (II.23.1.10).
use Rattle.std.proofs.Common.{◌≡◌, ℕ, ◌*◌, ◌/◌, ◌%◌, ◌^◌, Option, Some, None, refl, sym, ◌∙◌, arith}
use Rattle.std.specs.Prelude.{bit_and, nat_eq, not, ◌&&◌, ◌||◌}
use Rattle.std.specs.Option.{option_map}
use Rattle.std.specs.Int.{bit_at}
use Rattle.std.proofs.lemmas.Nat.Bits.{and_pow}
use Rattle.il_base.specs.declared.body.Body.{Body}
use Rattle.il_base.specs.declared.impl_flags.TheConstants.{UNMANAGED}
use Rattle.il_base.specs.Flags.{has_flag}
use Rattle.il_base.specs.declared.world_model.known.Known.{Known}
use Rattle.il_base.specs.declared.world_model.members.MethodDefRow.{MethodDefRow}
use Rattle.il_base.specs.declared.world_model.record.AsmRec.{AsmRec}
use Rattle.il_base.specs.world_model.Worlds.{known_map}
use Rattle.rules.specs.declared.link_rules.row_at.RowAt.{RowAt}
use Rattle.rules.specs.mark_rules.BadItems.{no_body, has_other_code, is_platform}
use Rattle.rules.specs.merge_rules.Refs.{Output}
use Rattle.rules.specs.merge_rules.Moved.{without, moved_body, moved_method_row}
use Rattle.rules.specs.merge_rules.Restricted.{put_rva}
use Rattle.merge_laws.proofs.lemmas.merged_rows_move.Flags.{seen_stays}

one_flag : (flags i n : ℕ) → bit_and flags (2 ^ i) ≡ n → bit_at flags i * 2 ^ i ≡ n
one_flag flags i n e = sym (and_pow flags i) ∙ e

flag_1024 : (flags : ℕ) → without 0x4000 flags / 1024 % 2 ≡ flags / 1024 % 2
flag_1024 flags =
    let e = one_flag (without 0x4000 flags) 10 (bit_and flags 1024) (seen_stays 0x4000 1024 flags refl) in
    let f = and_pow flags 10 in
    omega (arith, e, f)

flag_8192 : (flags : ℕ) → without 0x4000 flags / 8192 % 2 ≡ flags / 8192 % 2
flag_8192 flags =
    let e = one_flag (without 0x4000 flags) 13 (bit_and flags 8192) (seen_stays 0x4000 8192 flags refl) in
    let f = and_pow flags 13 in
    omega (arith, e, f)

pub seen_same : (flags : ℕ) → bit_and (without 0x4000 flags) 0x450 ≡ bit_and flags 0x450
seen_same flags = seen_stays 0x4000 0x450 flags refl

body_same : (f : Known Body → Known Body) (row : MethodDefRow) (o : Option (Known Body)) → no_body (record row { body = option_map f o }) ≡ no_body (record row { body = o })
body_same f row None = refl
body_same f row (Some b) = refl

module _ (rva : ℕ) (o : Output) (at : RowAt) (rec : AsmRec) (row : MethodDefRow) where
  abbrev new : MethodDefRow
  new = put_rva rva (moved_method_row o at rec row)

  pub no_body_same : no_body (put_rva rva (moved_method_row o at rec row)) ≡ no_body row
  no_body_same = body_same (known_map (moved_body o at.asm rec)) row row.body

  pub platform_same : is_platform (put_rva rva (moved_method_row o at rec row)) ≡ is_platform row
  platform_same =
      let none = no_body_same in
      λ i. nat_eq (flag_8192 row.flags i) 1 || has_other_code row.impl_flags || has_flag row.impl_flags UNMANAGED || (none i && not (nat_eq (flag_1024 row.flags i) 1))
