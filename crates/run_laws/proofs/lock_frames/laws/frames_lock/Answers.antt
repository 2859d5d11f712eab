use Rattle.run_laws.proofs.lemmas.lock_frames.Entering as entering
use Rattle.run_laws.proofs.lemmas.lock_frames.Dispatching as dispatching
use Rattle.run_laws.proofs.lock_frames.laws.frames_lock.Goals as goal

pub returns : goal.returns
returns c =
    record {
      enter = λ k q' q a d args w s h g f e. entering.enter_lock k q' q a d args w s (record { named = h.named; method = h.method; signature = h.signature }) g f e;
      started = λ k q' q a by_field e s f g h b c l. entering.started_lock k q' q a e h s c f g l by_field b;
      dispatched = λ k q' q a d e s f g h o m l.
          dispatching.dispatched_lock k q' q a d e s f g (record { named = h.named; method = h.method; signature = h.signature }) o m (λ x hx. l x (record { named = hx.named; method = hx.method; signature = hx.signature }));
    }
