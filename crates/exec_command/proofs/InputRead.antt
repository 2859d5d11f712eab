-- One more read of the input, and its end.
use Rattle.std.proofs.Common.{◌≡◌, ◌≤◌, ◌<◌, ℕ, ◌+◌, List, [], ◌++◌, length, Ok, Err, refl, sym, ap, subst, ◌∙◌, arith, length-append}
use Rattle.std.proofs.KnownBytes.{Consumes-nil, Consumes-trans, Consumes-kept}
use Rattle.std.specs.Io.KnownBytes.{Consumes}
use Rattle.il_outside.specs.Faults.{Rose}
use Rattle.il_outside.specs.Streams.{SourceState}
use Rattle.exec_command.specs.declared.input.TheConstants.{MOST_BYTES}
use Rattle.exec_command.specs.declared.input.InputFault.{InputFault}
use Rattle.exec_command.specs.declared.input.InputFault.TheVariants.{Failed, TooLong, NoMemory}
use Rattle.exec_command.specs.Input.{ReadsInput}
use Rattle.exec_command.specs.Turn.{Got, Turns}

-- what was read so far
pub record Taken (bytes : List ℕ) (was now : SourceState) : Type 0 where
  pub taken : Consumes was.left now.left bytes
  pub room : length bytes ≤ MOST_BYTES + 1
  pub quiet : now.faults ≡ was.faults

pub none_taken : (was : SourceState) → Taken [] was was
none_taken was = record { taken = Consumes-nil was.left; room = omega arith; quiet = refl }

pub more_taken : (n : ℕ) (old new : List ℕ) (was mid now : SourceState) → Taken old was mid → Got n old new mid now → Taken new was now
more_taken n old new was mid now h g = record {
  taken = subst (Consumes was.left now.left) (sym g.put) (Consumes-trans was.left mid.left now.left old g.more h.taken g.taken);
  room = g.room;
  quiet = g.quiet ∙ h.quiet;
}

-- nothing was got: the list is as it was
same_length : (old new more : List ℕ) → new ≡ old ++ more → length more ≡ 0 → length new ≡ length old
same_length old new more e none = omega (arith, ap length e, length-append old more)

pub input_over : (n : ℕ) (old new : List ℕ) (was mid now : SourceState) → n ≡ 0 → length old ≤ MOST_BYTES → Taken old was mid → Got n old new mid now → ReadsInput was now (Ok new)
input_over n old new was mid now none short h g =
    let all = more_taken n old new was mid now h g in
    let same = same_length old new g.more g.put (g.count ∙ none) in
    (record { taken = all.taken; over = g.over none; quiet = all.quiet }, omega (arith, same, short))

pub input_fault : (old new : List ℕ) (was mid now : SourceState) (e : InputFault) → Taken old was mid → Turns old new mid now (Err e) → ReadsInput was now (Err e)
input_fault old new was mid now Failed h t = ((old, Consumes-kept was.left mid.left now.left old h.taken t.0), subst (λ (k : ℕ). Rose k now.faults) h.quiet t.1)
input_fault old new was mid now TooLong h t = absurd t
input_fault old new was mid now NoMemory h t = ((old ++ t.0.0, Consumes-trans was.left mid.left now.left old t.0.0 h.taken t.0.1), t.1 ∙ h.quiet)

pub too_many : (bytes : List ℕ) (was now : SourceState) → MOST_BYTES < length bytes → Taken bytes was now → ReadsInput was now (Err TooLong)
too_many bytes was now many h = record { bytes = bytes; taken = h.taken; many = omega (arith, many, h.room); quiet = h.quiet }
