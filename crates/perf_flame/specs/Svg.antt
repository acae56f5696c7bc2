-- The text of a flame graph: an SVG of 1200 pixels.
use Rattle.std.specs.Prelude.{ℕ, ◌+◌, ◌-◌, ◌*◌, ◌/◌, ◌%◌, ◌^◌, ◌==◌, nat_lt, min, max, if◌then◌else◌, List, [], ◌∷◌, ◌++◌, take, codes, decimal, fold}
use Rattle.std.specs.List.{flat_map}
use Rattle.perf_text.specs.Numbers.{hex_byte}
use Rattle.perf_flame.specs.Boxes.{Box, boxes_of}
use Rattle.perf_flame.specs.Lines.{Line, total_of}

-- ---- names

-- a byte of a name in ASCII: one that is not, as `\x` and its two hexadecimal digits
abbrev pub shown_byte : ℕ → List ℕ
shown_byte b = if nat_lt b 128 then b ∷ [] else 92 ∷ 120 ∷ hex_byte b

-- a name in ASCII
abbrev pub shown : List ℕ → List ℕ
shown name = flat_map shown_byte name

-- a byte of a text, as XML writes it
abbrev pub escaped_byte : ℕ → List ℕ
escaped_byte b =
    if b == 38 then codes "&amp;"
    else (if b == 60 then codes "&lt;"
    else (if b == 62 then codes "&gt;"
    else (if b == 34 then codes "&quot;" else b ∷ [])))

-- a text, as XML writes it
abbrev pub escaped : List ℕ → List ℕ
escaped text = flat_map escaped_byte text

-- ---- numbers

-- a number of thousandths
unfoldable pub thousandths : ℕ → List ℕ
thousandths n = decimal (n / 1000) ++ (codes "." ++ (decimal (n / 100 % 10) ++ (decimal (n / 10 % 10) ++ decimal (n % 10))))

-- a number of hundredths
unfoldable pub hundredths : ℕ → List ℕ
hundredths n = decimal (n / 100) ++ (codes "." ++ (decimal (n / 10 % 10) ++ decimal (n % 10)))

-- where a count ends among all, in thousandths of a pixel
abbrev pub edge : (total n : ℕ) → ℕ
edge total n = min (n * 1200000 / max total 1) 1200000

-- what part of all a count is, in hundredths of a percent
abbrev pub percent : (total n : ℕ) → ℕ
percent total n = min (n * 10000 / max total 1) 10000

-- the upper edge of so many frames, in pixels
abbrev pub row : ℕ → ℕ
row n = min (n * 16) (2 ^ 64 - 1)

-- ---- boxes

-- how wide a box is, in thousandths of a pixel
abbrev pub width_of : (total : ℕ) → Box → ℕ
width_of total b = edge total (b.left + b.worth) - edge total b.left

-- a number that its name determines
abbrev pub hash : List ℕ → ℕ
hash name = fold (λ h b. ((h + b) % 2 ^ 32 * 16777619) % 2 ^ 32) 2166136261 name

-- the title of a box: its name in ASCII, its count, and what part of all that is
unfoldable pub title_of : (name : List ℕ) → (worth percent : ℕ) → List ℕ
title_of name worth percent =
    codes "<g><title>" ++ (escaped name
    ++ (codes " (" ++ (decimal worth ++ (codes ", " ++ (hundredths percent ++ codes "%)</title>")))))

-- where it is
unfoldable pub place_text : (x y width : ℕ) → List ℕ
place_text x y width =
    codes "<rect x=\"" ++ (thousandths x ++ (codes "\" y=\"" ++ (decimal y
    ++ (codes "\" width=\"" ++ (thousandths width ++ codes "\" height=\"15\"")))))

-- a warm colour
unfoldable pub fill_text : (hash : ℕ) → List ℕ
fill_text h =
    codes " fill=\"rgb(" ++ (decimal (h % 51 + 205) ++ (codes "," ++ (decimal (h / 51 % 231)
    ++ (codes "," ++ (decimal (h / 11781 % 56) ++ codes ")\"/>")))))

-- how many letters fit a box
abbrev pub letters : (width : ℕ) → ℕ
letters width = (width - 4000) / 7250

-- the beginning of a label
unfoldable pub label_head : (x y : ℕ) → List ℕ
label_head x y =
    codes "<text x=\"" ++ (thousandths x ++ (codes "\" y=\"" ++ (decimal y ++ codes "\" dx=\"2\" dy=\"12\">")))

-- a label
unfoldable pub label_text : (x y : ℕ) → (label : List ℕ) → List ℕ
label_text x y label = label_head x y ++ (escaped label ++ codes "</text>")

-- as much of a name in ASCII as fits a box, if three letters do
abbrev pub label_of : (x y width : ℕ) → (name : List ℕ) → List ℕ
label_of x y width name = if nat_lt (letters width) 3 then [] else label_text x y (take (letters width) name)

-- a box, where the deepest one has that depth
unfoldable pub box_text : (total deepest : ℕ) → Box → List ℕ
box_text total deepest b =
    title_of (shown b.name) b.worth (percent total b.worth)
    ++ (place_text (edge total b.left) (row (deepest - b.depth)) (width_of total b)
    ++ (fill_text (hash b.name)
    ++ (label_of (edge total b.left) (row (deepest - b.depth)) (width_of total b) (shown b.name) ++ codes "</g>\n")))

-- ---- the whole

-- the depth of the deepest box
abbrev pub deepest_of : List Box → ℕ
deepest_of boxes = fold (λ most (b : Box). max most b.depth) 0 boxes

-- the beginning of the text
unfoldable pub head_text : (height : ℕ) → List ℕ
head_text height =
    codes "<svg xmlns=\"http://www.w3.org/2000/svg\" width=\"1200\" height=\"" ++ (decimal height
    ++ (codes "\" viewBox=\"0 0 1200 " ++ (decimal height ++ codes "\" font-family=\"monospace\" font-size=\"12\">\n")))

-- the text of boxes
abbrev pub boxes_text : (total : ℕ) → List Box → List ℕ
boxes_text total boxes =
    head_text (min (row (deepest_of boxes) + 16) (2 ^ 64 - 1))
    ++ (flat_map (box_text total (deepest_of boxes)) boxes ++ codes "</svg>\n")

-- that of lines by their keys
abbrev pub flame_text : List Line → List ℕ
flame_text lines = boxes_text (total_of lines) (boxes_of lines)
