-- A file of at most 2^28 bytes: its parts are no longer, so that it can be laid out.
use Rattle.std.proofs.Common.{◌≡◌, ℕ, ◌+◌, ◌-◌, ◌^◌, ◌≤◌, List, ◌++◌, length, arith, length-append}
use Rattle.il_base.specs.declared.world_model.record.AsmRec.{AsmRec}
use Rattle.rules.specs.file_layout.Bytes.{aligned}
use Rattle.rules.specs.file_layout.Metadata.{Streams, metadata_bytes, root_bytes, stream_headers}
use Rattle.rules.specs.file_layout.Image.{Parts, image_length, names_end}
use Rattle.rules.specs.file_layout.Cells.{pools_of}
use Rattle.rules.specs.file_layout.Laid.{streams_with}
use Rattle.rules.specs.record_layout.Tables.{code_of, cells_of}
use Rattle.rules.specs.record_layout.Laid.{streams_of, parts_of}
use Rattle.file_laws.specs.written_image.Written.{CanLay, CanStream}
use Rattle.file_laws.proofs.lemmas.written_image.Sizes.{aligned4, aligned512}
use Rattle.file_laws.proofs.lemmas.layout_laws.Within.{Within}
use Rattle.file_laws.proofs.lemmas.layout_laws.Pools.{Small}

pub parts_within : (p : Parts) → length p.code + length p.metadata ≤ image_length p
parts_within p =
    let jump = aligned4 (names_end p + 2) in
    let raw = aligned512 (aligned 4 (names_end p + 2) - 2 + 2 + 4 - 0x2000) in
    omega arith

pub record StreamsWithin (s : Streams) : Type 0 where
  pub strings : length s.strings ≤ length (metadata_bytes s)
  pub guids : length s.guids ≤ length (metadata_bytes s)
  pub blobs : length s.blobs ≤ length (metadata_bytes s)

joined : (a b t s u g l : List ℕ) → length (a ++ b ++ t ++ s ++ u ++ g ++ l) ≡ length a + length b + length t + length s + length u + length g + length l
joined a b t s u g l = simp length-append (omega arith)

pub streams_within : (s : Streams) → StreamsWithin s
unfolding metadata_bytes
streams_within s =
    let whole = joined root_bytes (stream_headers s) s.tables s.strings s.users s.guids s.blobs in
    record { strings = omega arith; guids = omega arith; blobs = omega arith }

module _ (rec : AsmRec) (h : Within rec) where
  pub can_lay : CanLay (parts_of rec)
  unfolding parts_of
  can_lay = record { bits = h.can.header.bits; il_only = h.can.header.il_only; not_native = h.can.header.not_native; entry = h.can.header.entry; subsystem = h.can.header.subsystem; small = omega (arith, h.bytes) }

  code_small_of : length (parts_of rec).code ≤ 2 ^ 28
  code_small_of = omega (arith, h.bytes, parts_within (parts_of rec))

  metadata_small_of : length (parts_of rec).metadata ≤ 2 ^ 28
  metadata_small_of = omega (arith, h.bytes, parts_within (parts_of rec))

  pub code_small : length (code_of rec) ≤ 2 ^ 28
  unfolding parts_of
  code_small = code_small_of

  metadata_small : length (metadata_bytes (streams_of rec)) ≤ 2 ^ 28
  unfolding parts_of
  metadata_small = metadata_small_of

  pub can_stream : CanStream (streams_of rec)
  can_stream = record { small = omega (arith, metadata_small) }

  pub pools_small : Small (pools_of (cells_of rec))
  unfolding streams_of streams_with
  pools_small =
      let within = streams_within (streams_of rec) in
      record { strings = omega (arith, metadata_small, within.strings); blobs = omega (arith, metadata_small, within.blobs); guids = omega (arith, metadata_small, within.guids) }
