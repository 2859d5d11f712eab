use Rattle.std.proofs.Common.{◌∙◌, ap, reverse, List}
use Rattle.il_base.specs.declared.cil_values.frame.Frame.{Frame}
use Rattle.machine_words.specs.cil_places.Parts.{set_slot}
use Rattle.machine_words.proofs.lemmas.cil_places.Backs.{put_frames}
use Rattle.machine_words.proofs.cil_places.frames.put_slot.Goals as goal

pub returns : goal.returns
returns c =
    put_frames c.args.number (set_slot c.args.slot c.args.v.now) c.args.st.now c.change_frame.new.f c.into_vec-frames.result.items c.change_frames.new.frames.items c.from_vec.result
    c.in_ok-change_frame.ensures (c.into_vec-frames.ensures ∙ ap (λ (fs : List Frame). reverse fs) c.replace.ensures.value) c.in_ok-change_frames.ensures c.from_vec.ensures
