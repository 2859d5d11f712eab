use Rattle.std.proofs.Common.{◌≡◌, List, ℕ, length, map, refl, ap, ◌∙◌}
use Rattle.il_base.specs.declared.world_model.record.UserText.{UserText}
use Rattle.il_base.specs.declared.world_model.record.AsmRec.{AsmRec}
use Rattle.rules.specs.file_layout.Heaps.{users_heap}
use Rattle.rules.specs.file_layout.Laid.{streams_with}
use Rattle.rules.specs.record_layout.Laid.{streams_of}
use Rattle.record_writer.specs.metadata_writer.Lengths.{users_put}
use Rattle.rules.specs.record_layout.Limits.{users_length}
use Rattle.record_writer.proofs.lemmas.metadata_writer.Puts.{users_put-length}
use Rattle.record_writer.proofs.writing.users_length.Goals as goal

users_of : (rec : AsmRec) → length (users_heap (map (λ t. t.text) rec.user)) ≡ users_length rec
unfolding streams_of streams_with
users_of rec = refl

pub returns : goal.returns
returns c =
    c.length_of.ensures
    ∙ ap (λ (bs : List ℕ). length bs) (c.deref.ensures.value ∙ c.in_ok-heap.ensures)
    ∙ ap (λ (ts : List UserText). length (users_put (map (λ t. t.text) ts))) c.as_slice.ensures
    ∙ users_put-length (map (λ t. t.text) c.args.rec.now.user)
    ∙ users_of c.args.rec.now
