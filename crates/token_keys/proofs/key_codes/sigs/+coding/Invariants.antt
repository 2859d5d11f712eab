use Rattle.std.proofs.Common.{◌≡◌, ◌++◌, drop}
use Rattle.std.specs.List.{flat_map}
use Rattle.token_keys.specs.key_codes.Codes.{sig_code}
use Rattle.token_keys.proofs.key_codes.sigs.+coding.Given as goal

abbrev pub invariant-add_each-loop-sig : goal.invariant-add_each-loop-sig
invariant-add_each-loop-sig l = l.code.items ++ flat_map sig_code (drop l.sig-index l.sigs) ≡ l.initial.code.items ++ flat_map sig_code l.sigs
