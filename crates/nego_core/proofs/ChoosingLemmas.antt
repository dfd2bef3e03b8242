-- What the whole list refuses, and the default.
use Rattle.std.proofs.Common.{◌≡◌, Bool, true, false, refl, sym, ◌∙◌}
use Rattle.std.specs.Prelude.{IsTrue, ◌↔◌, not}
use Rattle.list_core.proofs.Basics.{false_true}

open_on : (Refuses : Type 0) (r : Bool) → IsTrue r ↔ Refuses → IsTrue (not r) ↔ (¬ Refuses)
open_on Refuses true b = ((λ f. absurd (false_true f)), (λ n. absurd (n (b.0 refl))))
open_on Refuses false b = ((λ _ r. false_true (b.1 r)), (λ _. refl))

-- held, and not refused
pub open_held : (Refuses : Type 0) (held : Bool) (h r : Bool) → h ≡ held → h ≡ true → IsTrue r
    ↔ Refuses → IsTrue (not r) ↔ (IsTrue held × ¬ Refuses)
open_held Refuses held h r e t b = let o = open_on Refuses r b in
    ((λ n. (sym e ∙ t, o.0 n)), (λ p. o.1 p.1))

-- A language that is not held is not open, whatever is refused.
pub closed : (Refuses : Type 0) (held : Bool) (h : Bool) → h ≡ held → h ≡ false → IsTrue h
    ↔ (IsTrue held × ¬ Refuses)
closed Refuses held h e f =
    ((λ g. absurd (false_true (sym f ∙ g))), (λ p. absurd (false_true (sym f ∙ (e ∙ p.0)))))

-- where nothing is refused the test says so
pub none_refused : (Refuses : Type 0) → ¬ Refuses → IsTrue false ↔ Refuses
none_refused Refuses n = ((λ t. absurd (false_true t)), (λ r. absurd (n r)))
