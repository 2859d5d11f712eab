use Rattle.std.proofs.Common.{◌≡◌, ◌≤◌, map, take, All}
use Rattle.rules.specs.file_layout.TableStream.{width}
use Rattle.record_writer.proofs.metadata_writer.widths.widths.Given as goal

abbrev pub invariant-loop-column : goal.invariant-loop-column
invariant-loop-column l = record {
  value : l.out.items ≡ map (width l.sizes l.tables) (take l.column-index l.column-items);
  small : All (λ w. w ≤ 4) l.out.items;
}
