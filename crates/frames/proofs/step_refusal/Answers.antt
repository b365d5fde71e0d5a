use Rattle.std.proofs.Common.{ℕ, ap, ap₂, ◌∙◌}
use Rattle.refusal.specs.Refusal.{unless_refused}
use Rattle.refusals.proofs.Numbers.{number_told}
use Rattle.memory_fits.specs.MemoryFits.{memory_refusal}
use Rattle.memory_fits.proofs.Numbers as Memories
use Rattle.frames.specs.Frames.{lower}
use Rattle.frames.proofs.Refused.{lower_refusal}
use Rattle.frames.proofs.step_refusal.Goals as goal

pub returns : goal.returns
returns c =
    let m = c.args.memory in
    let xs = c.args.earlier.xs.now in
    let ys = c.args.earlier.ys.now in
    c.lower.ensures
    ∙ ap (λ (n : ℕ). unless_refused n tt)
    (ap₂ lower (number_told _ c.args.s xs ys c.refusal-of_frame.ensures)
    (Memories.number_told _ _ _ _ _ _ _ c.memory_refusal-of_memory.ensures ∙ ap (memory_refusal m.home m.away m.ball m.restart m.kicking_player) c.toucher-number.ensures)
    ∙ lower_refusal m c.args.s c.args.events xs ys)
