use Rattle.std.proofs.Common.{◌≡◌, ℕ, List, Result, Ok, Err, MatchResult, option_map, refl, Bor}
use Rattle.std.proofs.lemmas.Bool.{false_from_ne_true}
use Rattle.std.proofs.lemmas.Str.{is_utf8-from_IsUtf8, IsUtf8-from_is_utf8}
use Rattle.std.specs.Result.{result_ok}
use Rattle.std.specs.Str.{IsUtf8, is_utf8}
use Rattle.perf_types.specs.Text.{text_of}
use Rattle.perf_types.proofs.text.text.Goals as goal

-- a test for UTF-8 returns the bytes, or reports that they are not UTF-8
tested : {E : Type 0} (Q : E → Type 0) (bytes : List ℕ) (r : Result (Bor (List ℕ)) E) →
    MatchResult r (λ s. (s.now ≡ bytes) × IsUtf8 bytes) (λ e. (¬ (IsUtf8 bytes)) × Q e) →
    option_map (λ s. s.now) (result_ok r) ≡ text_of bytes
tested Q bytes (Ok s) h = rw (is_utf8-from_IsUtf8 bytes h.1, h.0) refl
tested Q bytes (Err e) h = rw (false_from_ne_true (is_utf8 bytes) (λ is. h.0 (IsUtf8-from_is_utf8 bytes is))) refl

pub returns : goal.returns
returns c = rw c.ok.ensures.value (tested _ c.args.bytes.now c.from_utf8.result c.from_utf8.ensures.cases)
