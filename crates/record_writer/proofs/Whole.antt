-- The whole file, by its parts.
use Rattle.std.proofs.Common.{◌≡◌, ℕ, ◌+◌, ◌-◌, ◌^◌, ◌<◌, List, [], length, map, ap, ap₂, ◌∙◌, subst, arith}
use Rattle.il_base.specs.declared.world_model.members.MethodDefRow.{MethodDefRow}
use Rattle.il_base.specs.declared.world_model.extras.FieldRvaRow.{FieldRvaRow}
use Rattle.il_base.specs.declared.world_model.record.AsmRec.{AsmRec}
use Rattle.il_base.specs.declared.world_model.record.UserText.{UserText}
use Rattle.rules.specs.file_layout.Bytes.{aligned}
use Rattle.rules.specs.file_layout.Metadata.{Streams, metadata_bytes}
use Rattle.rules.specs.file_layout.Image.{Parts, image_bytes, image_length}
use Rattle.rules.specs.file_layout.Cells.{CellTables, pools_of}
use Rattle.rules.specs.file_layout.Laid.{streams_with}
use Rattle.rules.specs.file_layout.Bodies.{code_behind}
use Rattle.rules.specs.record_layout.FieldData.{with_all_data}
use Rattle.rules.specs.record_layout.Tables.{code_of, cells_of}
use Rattle.rules.specs.record_layout.Laid.{streams_of, parts_of, laid, laid_length}
use Rattle.record_writer.specs.metadata_writer.Written.{IsPut}

-- the metadata of a record
pub put_of_record : (rec : AsmRec) (m : List ℕ) (cells : CellTables) (user : List UserText) → cells ≡ cells_of rec → user ≡ rec.user
    → IsPut m (metadata_bytes (streams_with (pools_of cells) cells (map (λ t. t.text) user))) → IsPut m (metadata_bytes (streams_of rec))
unfolding streams_of
put_of_record rec m cells user ec eu h =
    let both : streams_with (pools_of cells) cells (map (λ t. t.text) user) ≡ streams_with (pools_of (cells_of rec)) (cells_of rec) (map (λ t. t.text) rec.user)
    = λ i. streams_with (pools_of (ec i)) (ec i) (map (λ t. t.text) (eu i)) in
    subst (λ (s : Streams). IsPut m (metadata_bytes s)) both h

-- the code of a record, by the bodies and what is put after them
pub code_from : (rec : AsmRec) (code bodies : List ℕ) (methods : List MethodDefRow) (fields : List FieldRvaRow) → code ≡ with_all_data bodies fields → bodies ≡ code_behind [] (map (λ m. m.body) methods)
    → methods ≡ rec.method_def → fields ≡ rec.field_rva → code ≡ code_of rec
unfolding code_of
code_from rec code bodies methods fields e f g h =
    e ∙ ap₂ (λ (bs : List ℕ) (rows : List FieldRvaRow). with_all_data bs rows) (f ∙ ap (λ (ms : List MethodDefRow). code_behind [] (map (λ m. m.body) ms)) g) h

-- ---- the image

-- how many bytes an image has, by those of its code and its metadata
abbrev length_by : ℕ → ℕ → ℕ
length_by code metadata = 0x200 + aligned 0x200 (aligned 4 (0x2050 + code + metadata + 40 + 8 + 14 + 12 + 2) - 2 + 2 + 4 - 0x2000) + 0x200

same_length : (p q : Parts) → length p.code ≡ length q.code → length p.metadata ≡ length q.metadata → image_length p ≡ image_length q
same_length p q ec em = λ i. length_by (ec i) (em i)

-- the parts that are put
abbrev pub parts_put : AsmRec → List ℕ → List ℕ → Parts
parts_put rec code metadata = record { bits = rec.bits; entry = rec.entry; subsystem = rec.subsystem; code = code; metadata = metadata }

pub length_is : (rec : AsmRec) (code metadata : List ℕ) → code ≡ code_of rec → IsPut metadata (metadata_bytes (streams_of rec)) → image_length (parts_put rec code metadata) ≡ laid_length rec
unfolding parts_of
length_is rec code metadata ec hm = same_length (parts_put rec code metadata) (parts_put rec (code_of rec) (metadata_bytes (streams_of rec))) (ap length ec) hm.len

pub laid_is : (rec : AsmRec) (code metadata : List ℕ) → code ≡ code_of rec → IsPut metadata (metadata_bytes (streams_of rec)) → length metadata < 2 ^ 29
    → image_bytes (parts_put rec code metadata) ≡ laid rec
unfolding laid parts_of
laid_is rec code metadata ec hm lt =
    let short : length (metadata_bytes (streams_of rec)) < 2 ^ 29 = omega (arith, hm.len) in
    λ i. image_bytes (parts_put rec (ec i) (hm.exact short i))
