use Rattle.std.proofs.Common.{List, ℕ, ◌++◌, ◌∙◌, ap, codes}
use Rattle.rules.specs.file_layout.Bytes.{half, word, zeros}
use Rattle.rules.specs.file_layout.Image as layout
use Rattle.rules.specs.file_layout.Image.{import_bytes}
use Rattle.record_writer.specs.image_writer.Views.{parts}
use Rattle.record_writer.proofs.lemmas.byte_writer.Chains.{then_ok, four, apart, as_word}
use Rattle.record_writer.proofs.image_writer.sections.put_imports.Goals as goal

pub returns : goal.returns
unfolding import_bytes
returns c =
    let p : layout.Parts = parts c.args.p.now in
    let front : List ℕ = word (layout.lookup_rva p) ++ word 0 ++ word 0 ++ word (layout.library_rva p) ++ word 0x2000 ++ zeros 20 ++ word (layout.hint_rva p) ++ word 0 in
    then_ok _ _ c.put_import_names.result
    (λ e. four _ _ _ _ _ _ _ _ _ c.in_ok-put_import_directory.ensures (as_word _ _ _ _ c.hint_rva.ensures.value c.in_ok-put_word.ensures) c.in_ok-put_word-2.ensures e
    ∙ ap (λ (x : List ℕ). c.args.out.now.items ++ x) (apart front (half 0) (codes "_CorExeMain" ++ zeros 1) (codes "mscoree.dll" ++ zeros 1)))
    c.put_import_names.ensures
