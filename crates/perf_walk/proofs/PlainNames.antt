-- Names and places depend on changes by the bytes of their byte strings alone.
use Rattle.std.proofs.Common.{◌≡◌, ℕ, ◌==◌, ◌&&◌, Bool, true, false, List, [], ◌∷◌, map, refl, ◌∙◌, ap, if◌then◌else◌}
use Rattle.std.specs.Prelude.{Option, Some, None, option_map, option_and_then}
use Rattle.std.specs.Borrow.{Bor}
use Rattle.perf_history.specs.FileNames.{keeps_address}
use Rattle.perf_history.specs.Forks.{origin}
use Rattle.perf_history.specs.Histories.{name_after, mapping_after, name_of, place_of, symbol_or_none}
use Rattle.perf_history.specs.Modes.{kernel, space_of, space_at}
use Rattle.perf_history.specs.Names.{name_or_number}
use Rattle.perf_history.specs.Places.{file_of, mapping_of, mapping_of_symbol, place_in}
use Rattle.perf_history.specs.Ranges.{is_within}
use Rattle.perf_history.specs.declared.changes.Change.{Change}
use Rattle.perf_history.specs.declared.changes.Change.TheVariants.{Comm, Fork, Map, Symbol}
use Rattle.perf_history.specs.declared.changes.Map as maps
use Rattle.perf_history.specs.declared.changes.Symbol as symbols
use Rattle.perf_history.specs.declared.changes.Mode.{Mode}
use Rattle.perf_history.specs.declared.places.File.TheVariants as files
use Rattle.perf_history.specs.declared.places.Mapping.{Mapping}
use Rattle.perf_walk.specs.Plain.{lent, plain, plain_identity, plain_name, plain_file, plain_place}

-- a function of a choice
chosen : {A B : Type 0} (f : A → B) (b : Bool) (x y : A) → f (if b then x else y) ≡ (if b then f x else f y)
chosen f true x y = refl
chosen f false x y = refl

-- a choice of equals
choose : {A : Type 0} (b : Bool) (x y v w : A) → x ≡ v → y ≡ w → (if b then x else y) ≡ (if b then v else w)
choose true x y v w e f = e
choose false x y v w e f = f

-- ---- names

abbrev lent_name : Option (Bor (List ℕ)) → Option (Bor (List ℕ))
lent_name name = option_map (λ (b : Bor (List ℕ)). lent b.now) name

names_plain : (changes : List Change) (tid : ℕ) → lent_name (name_after changes tid) ≡ name_after (map plain changes) tid
names_plain [] tid = refl
names_plain (Comm c ∷ older) tid =
    chosen lent_name (c.tid == tid) (Some c.name) (name_after older tid)
    ∙ choose (c.tid == tid) (Some (lent c.name.now)) (lent_name (name_after older tid)) (Some (lent c.name.now)) (name_after (map plain older) tid) refl (names_plain older tid)
names_plain (Fork f ∷ older) tid =
    chosen lent_name (f.tid == tid) (name_after older f.ptid) (name_after older tid)
    ∙ choose (f.tid == tid) (lent_name (name_after older f.ptid)) (lent_name (name_after older tid)) (name_after (map plain older) f.ptid) (name_after (map plain older) tid)
    (names_plain older f.ptid) (names_plain older tid)
names_plain (Map m ∷ older) tid = names_plain older tid
names_plain (Symbol s ∷ older) tid = names_plain older tid

named_plain : (name : Option (Bor (List ℕ))) (tid : ℕ) → plain_name (name_or_number name tid) ≡ name_or_number (lent_name name) tid
named_plain (Some name) tid = refl
named_plain None tid = chosen plain_name (tid == 0) _ _

-- the name of a thread
pub name_plain : (changes : List Change) (tid : ℕ) → plain_name (name_of changes tid) ≡ name_of (map plain changes) tid
name_plain changes tid = named_plain (name_after changes tid) tid ∙ ap (λ n. name_or_number n tid) (names_plain changes tid)

-- ---- places

abbrev plain_mapping : Mapping → Mapping
plain_mapping m = record m { file = plain_file m.file; identity = plain_identity m.identity }

abbrev plain_map : maps.Map → maps.Map
plain_map m = record m { file = lent m.file.now; identity = plain_identity m.identity }

file_plain : (m : maps.Map) → plain_file (file_of m) ≡ file_of (plain_map m)
file_plain m = chosen plain_file (keeps_address m.file.now && m.executable) (files.PerfMap m.pid) (files.Named m.file)

of_map_plain : (m : maps.Map) → plain_mapping (mapping_of m) ≡ mapping_of (plain_map m)
of_map_plain m = ap (λ f. record (mapping_of m) { file = f; identity = plain_identity m.identity }) (file_plain m)

abbrev plain_symbol : symbols.Symbol → symbols.Symbol
plain_symbol s = record s { name = lent s.name.now }

of_symbol_plain : (s : symbols.Symbol) → option_map plain_mapping (symbol_or_none s) ≡ symbol_or_none (plain_symbol s)
of_symbol_plain s = chosen (option_map plain_mapping) s.removed None (Some (mapping_of_symbol s))

mappings_plain : (changes : List Change) (space address : ℕ) → option_map plain_mapping (mapping_after changes space address) ≡ mapping_after (map plain changes) space address
mappings_plain [] space address = refl
mappings_plain (Comm c ∷ older) space address = mappings_plain older space address
mappings_plain (Fork f ∷ older) space address = mappings_plain older (origin f space) address
mappings_plain (Map m ∷ older) space address =
    let here : Bool = space_of m.mode m.pid == space && is_within m.start m.len address in
    chosen (option_map plain_mapping) here (Some (mapping_of m)) (mapping_after older space address)
    ∙ choose here (Some (plain_mapping (mapping_of m))) (option_map plain_mapping (mapping_after older space address)) (Some (mapping_of (plain_map m))) (mapping_after (map plain older) space address)
    (ap Some (of_map_plain m)) (mappings_plain older space address)
mappings_plain (Symbol s ∷ older) space address =
    let here : Bool = kernel == space && is_within s.start s.len address in
    chosen (option_map plain_mapping) here (symbol_or_none s) (mapping_after older space address)
    ∙ choose here (option_map plain_mapping (symbol_or_none s)) (option_map plain_mapping (mapping_after older space address)) (symbol_or_none (plain_symbol s)) (mapping_after (map plain older) space address)
    (of_symbol_plain s) (mappings_plain older space address)

placed_plain : (m : Option Mapping) (address : ℕ) → option_map plain_place (option_map (λ m. place_in m address) m) ≡ option_map (λ m. place_in m address) (option_map plain_mapping m)
placed_plain (Some m) address = refl
placed_plain None address = refl

spaced_plain : (changes : List Change) (space : Option ℕ) (address : ℕ) →
    option_map plain_place (option_and_then (λ space. option_map (λ m. place_in m address) (mapping_after changes space address)) space)
    ≡ option_and_then (λ space. option_map (λ m. place_in m address) (mapping_after (map plain changes) space address)) space
spaced_plain changes (Some space) address =
    placed_plain (mapping_after changes space address) address ∙ ap (option_map (λ m. place_in m address)) (mappings_plain changes space address)
spaced_plain changes None address = refl

-- what is at an address
pub place_plain : (changes : List Change) (pid : ℕ) (mode : Mode) (address : ℕ) → option_map plain_place (place_of changes pid mode address) ≡ place_of (map plain changes) pid mode address
place_plain changes pid mode address = spaced_plain changes (space_at mode pid) address
