use Rattle.std.proofs.Common.{◌<◌, ◌≤◌, length, ◌∙◌}
use Rattle.mark_parts.specs.mark_tables.Assemblies.{all_of}
use Rattle.descriptor_texts.proofs.lemmas.slashed_names.Zipping.{zip_next, zip_all}
use Rattle.descriptor_texts.specs.nested_types.Nested.{AreNestedIn}
use Rattle.descriptor_texts.proofs.nested_types.nested.NestedTypes.of.Goals as goal

pub loop-asm-preserved : goal.loop-asm-preserved
loop-asm-preserved c =
    let n = c.in_ok-count.ensures ∙ c.len.ensures in
    let below : c.loop-asm.asm < length (all_of c.args.marker.now) = rw (← n) c.loop-asm-test.true in
    zip_next AreNestedIn (all_of c.args.marker.now) c.loop-asm.asm below c.loop-asm.groups.items c.in_ok-own.own c.loop-asm.invariant c.in_ok-own.ensures c.push.new.self.items c.in_ok-push.ensures.items

pub returns : goal.returns
returns c =
    let n = c.in_ok-count.ensures ∙ c.len.ensures in
    let done : length (all_of c.args.marker.now) ≤ c.loop-asm.asm = rw (← n) c.loop-asm-test.false in
    zip_all AreNestedIn (all_of c.args.marker.now) c.loop-asm.asm done c.loop-asm.groups.items c.loop-asm.invariant
