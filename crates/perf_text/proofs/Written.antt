-- What was appended to a writer, if its bytes are known.
use Rattle.std.proofs.Common.{ℕ, List, [], ◌++◌, Option, Some, None, sym, ap, ◌∙◌, append-nil, append_assoc}
use Rattle.std.specs.Io.KnownBytes.{Appends, Keeps}

pub appends_nothing : (old : Option (List ℕ)) → Appends old old []
appends_nothing None = tt
appends_nothing (Some xs) = sym (append-nil xs)

pub appends_more : (old mid new : Option (List ℕ)) (bs cs : List ℕ) → Appends old mid bs → Appends mid new cs → Appends old new (bs ++ cs)
appends_more None mid new bs cs p q = tt
appends_more (Some xs) None new bs cs p q = absurd p
appends_more (Some xs) (Some ys) None bs cs p q = absurd q
appends_more (Some xs) (Some ys) (Some zs) bs cs p q = q ∙ ap (λ front. front ++ cs) p ∙ append_assoc xs bs cs

pub appends_kept : (old mid new : Option (List ℕ)) (bs : List ℕ) → Appends old mid bs → Keeps mid new → Appends old new bs
appends_kept None mid new bs p q = tt
appends_kept (Some xs) None new bs p q = absurd p
appends_kept (Some xs) (Some ys) None bs p q = absurd q
appends_kept (Some xs) (Some ys) (Some zs) bs p q = q ∙ p
