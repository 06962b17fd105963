-- What several appends, one after another, make of a text or of a list of lines.
use Rattle.std.proofs.Common.{◌≡◌, List, ◌++◌, ap, ◌∙◌, append_assoc}

-- two appends are one of both
pub appended : {X : Type 0} (first second third a b : List X) → second ≡ first ++ a → third ≡ second ++ b → third ≡ first ++ (a ++ b)
appended first second third a b before now = now ∙ ap (λ t. t ++ b) before ∙ append_assoc first a b
