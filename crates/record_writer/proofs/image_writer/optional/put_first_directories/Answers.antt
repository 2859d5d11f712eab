use Rattle.std.proofs.Common.{ℕ, ◌++◌, ◌∙◌, ap}
use Rattle.rules.specs.file_layout.Image.{directory}
use Rattle.record_writer.proofs.lemmas.byte_writer.Chains.{then_ok, four}
use Rattle.record_writer.proofs.image_writer.optional.put_first_directories.Goals as goal

pub returns : goal.returns
returns c =
    then_ok _ _ c.put_directory-2.result
    (λ e. four _ _ _ _ _ _ _ _ _ c.in_ok-put_zeros.ensures
    (c.in_ok-put_directory.ensures ∙ ap (λ (n : ℕ). c.put_zeros.new.out.items ++ directory n 0x4a) c.imports_rva.ensures.value)
    c.in_ok-put_zeros-2.ensures
    (e ∙ ap (λ (n : ℕ). c.put_zeros-2.new.out.items ++ directory n 12) c.reloc_rva.ensures.value))
    c.put_directory-2.ensures
