use Rattle.std.proofs.Common.{◌≡◌, ◌∙◌, ◌++◌, ◌∷◌, [], List, ℕ, length, get_or, refl, ap, rules}
use Rattle.perf_base.specs.Header.{header_of}
use Rattle.perf_reader.proofs.header.header_from.Goals as goal

-- the bytes of a list of one and of a list of seven, one by one
eight : (xs ys : List ℕ) → length xs ≡ 1 → length ys ≡ 7 →
    get_or xs 0 0 ∷ get_or ys 0 0 ∷ get_or ys 1 0 ∷ get_or ys 2 0 ∷ get_or ys 3 0 ∷ get_or ys 4 0 ∷ get_or ys 5 0 ∷ get_or ys 6 0 ∷ [] ≡ xs ++ ys
eight [] ys one seven = cc
eight (x ∷ y ∷ xs) ys one seven = cc
eight (x ∷ []) ([]) one seven = cc
eight (x ∷ []) (a ∷ []) one seven = cc
eight (x ∷ []) (a ∷ b ∷ []) one seven = cc
eight (x ∷ []) (a ∷ b ∷ c ∷ []) one seven = cc
eight (x ∷ []) (a ∷ b ∷ c ∷ d ∷ []) one seven = cc
eight (x ∷ []) (a ∷ b ∷ c ∷ d ∷ e ∷ []) one seven = cc
eight (x ∷ []) (a ∷ b ∷ c ∷ d ∷ e ∷ f ∷ []) one seven = cc
eight (x ∷ []) (a ∷ b ∷ c ∷ d ∷ e ∷ f ∷ g ∷ []) one seven = refl
eight (x ∷ []) (a ∷ b ∷ c ∷ d ∷ e ∷ f ∷ g ∷ y ∷ ys) one seven = cc

pub returns : goal.returns
returns g c = c.header_in.ensures ∙ ap (header_of (g.E.Endian.order c.args.endian.now)) (eight c.args.first c.args.others (search rules) (search rules))
