use Rattle.std.proofs.Common.{◌≡◌, [], ◌∷◌, ◌++◌}
use Rattle.type_names.proofs.Joining.{one_more, all_joined}
use Rattle.mark_parts.specs.mark_tables.Assemblies.{recs_of, rec_of}
use Rattle.descriptor_texts.specs.sig_texts.Spelled.{owners_told, text_of}
use Rattle.descriptor_texts.proofs.lemmas.sig_texts.TextLayers.{inst_put, on_ok}
use Rattle.descriptor_texts.proofs.sig_texts.types.+writing.Goals as goal

pub put_type-returns-in_ok-put_arguments-in-Inst : goal.put_type-returns-in_ok-put_arguments-in-Inst
put_type-returns-in_ok-put_arguments-in-Inst t c =
    on_ok (c.push-in-Inst.new.self ≡ c.put_arguments.new.out ++ 62 ∷ []) (c.push-in-Inst.new.self ≡ c.args.out.now ++ text_of c.args.s.now c.args.ty.now) c.push-in-Inst.result
    (λ h. inst_put (recs_of c.args.s.now.asm) (rec_of c.args.s.now.asm) (owners_told c.args.s.now.owners) c.args.out.now c.in-Inst.id c.in-Inst.args c.as_slice.result.now c.args.ty.now c.put_definition-in-Inst.new.out c.push.new.self c.put_arguments.new.out c.push-in-Inst.new.self c.in-Inst.is c.in_ok-put_definition-in-Inst.ensures c.in_ok-push-in-Inst.ensures.ok c.as_slice.ensures c.in_ok-put_arguments-in-Inst.ensures h)
    c.push-in-Inst.ensures.ok

pub put_arguments-loop-i-preserved : goal.put_arguments-loop-i-preserved
put_arguments-loop-i-preserved t c =
    one_more (text_of c.args.s.now) c.args.args.now c.loop-i.i _ _ _ _ _ c.loop-i-test.true c.index-args-i.is c.in_ok-put_separator.ensures c.in_ok-put_type.ensures c.loop-i.invariant

pub put_arguments-returns : goal.put_arguments-returns
put_arguments-returns t c = all_joined (text_of c.args.s.now) c.args.args.now c.loop-i.i _ _ c.loop-i-test.false c.loop-i.invariant
