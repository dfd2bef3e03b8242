use Rattle.list_core.proofs.fallbacks.read_new.Goals as goal

pub returns-in-None : goal.returns-in-None
returns-in-None c =
    let none = rw c.in-None.is at c.in_ok-element.ensures in λ f is. absurd (none f is)
