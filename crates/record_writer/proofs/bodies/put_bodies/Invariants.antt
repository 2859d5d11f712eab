use Rattle.std.proofs.Common.{◌≡◌, [], ◌++◌, map, drop}
use Rattle.rules.specs.file_layout.Bodies.{code_behind, rvas_behind}
use Rattle.record_writer.proofs.bodies.put_bodies.Given as goal

abbrev pub invariant-loop-method : goal.invariant-loop-method
invariant-loop-method l = record {
  bytes : code_behind l.bytes.items (map (λ m. m.body) (drop l.method-index l.methods)) ≡ code_behind [] (map (λ m. m.body) l.methods);
  rvas : l.rvas.items ++ rvas_behind l.bytes.items (map (λ m. m.body) (drop l.method-index l.methods)) ≡ rvas_behind [] (map (λ m. m.body) l.methods);
}
