-- What the six lines of a header say.
use Rattle.std.specs.Prelude.{ℕ, slice_get, codes, ◌+◌, ◌*◌, Bool, true, false, ◌&&◌, ◌==◌, nat_lt, nat_le, if◌then◌else◌, List, [], ◌∷◌, map, Option, Some, None, option_and_then, Result, Ok}
use Rattle.std.specs.List.{list_any, count_by, range_with_len}
use Rattle.mb_base.specs.Limits.{most_faults, least_interval, most_interval, most_clients}
use Rattle.mb_base.specs.Shapes.{Bytes, max_faults, interval, client_count}
use Rattle.mb_sched.specs.declared.header.Header.{Header}
use Rattle.mb_sched.specs.declared.header.Marks.{Marks}
use Rattle.mb_schedule.specs.declared.schedule.Name.{Name}
use Rattle.mb_schedule.specs.declared.schedule.Name.TheVariants.{Host, Client}
use Rattle.mb_sched.specs.Words.{words, is, number_in, name_in, all_of, digest_of}
use Rattle.mb_sched.specs.Lines.{◌>>=◌, read_line}
use Rattle.mb_sched.specs.TextLines.{exact_line, keyword_line}

-- ---- who is faulty

abbrev pub is_host_name : Name → Bool
is_host_name (Host host) = true
is_host_name (Client client) = false

-- hosts stand before clients, and smaller numbers before greater ones
abbrev pub is_before : Name → Name → Bool
is_before (Host a) (Host b) = nat_lt a b
is_before (Host a) (Client b) = true
is_before (Client a) (Host b) = false
is_before (Client a) (Client b) = nat_lt a b

-- whether each stands before the next
abbrev pub rise : List Name → Bool
rise [] = true
rise (first ∷ []) = true
rise (first ∷ second ∷ more) = is_before first second && rise (second ∷ more)

-- whether these are hosts and then clients, each rising, with at most `most` hosts
unfoldable pub are_faulty : ℕ → List Name → Bool
are_faulty most names = rise names && nat_le (count_by is_host_name names) most

abbrev pub is_host_of : ℕ → Name → Bool
is_host_of h (Host host) = host == h
is_host_of h (Client client) = false

abbrev pub is_client_of : ℕ → Name → Bool
is_client_of c (Host host) = false
is_client_of c (Client client) = client == c

-- true for each that has its name among these
abbrev pub marks_of : ℕ → ℕ → List Name → Marks
marks_of hosts clients names = record {
  hosts = map (λ h. list_any (is_host_of h) names) (range_with_len 0 hosts);
  clients = map (λ c. list_any (is_client_of c) names) (range_with_len 0 clients);
}

-- the marks of names, where these may be faulty
abbrev pub faulty_named : ℕ → ℕ → ℕ → List Name → Option Marks
faulty_named most hosts clients names = if are_faulty most names then Some (marks_of hosts clients names) else None

-- `faulty` and the names of whom is faulty
abbrev pub faulty_by_name : ℕ → ℕ → ℕ → List Bytes → Option Marks
faulty_by_name most hosts clients [] = None
faulty_by_name most hosts clients (first ∷ names) =
    if is "faulty" first then option_and_then (faulty_named most hosts clients) (all_of (name_in hosts clients) names) else None

abbrev pub faulty_line : ℕ → ℕ → Bytes → Option Marks
faulty_line f clients line = faulty_by_name f (2 * f + 1) clients (words line)

-- ---- the header

-- what it says: the three numbers of a shape, the secret, and who is faulty
pub record HeaderContents : Type 0 where
  pub f : ℕ
  pub k : ℕ
  pub clients : ℕ
  pub secret : Bytes
  pub faulty : Marks

-- the header of six lines, each of which may be missing
unfoldable pub header_by : Option Bytes → Option Bytes → Option Bytes → Option Bytes → Option Bytes → Option Bytes → Result HeaderContents ℕ
header_by title faults interval count key names = do
  _ ← read_line 1 (exact_line (codes "minbft schedule 2")) title
  f ← read_line 2 (keyword_line (codes "f") (number_in 1 most_faults)) faults
  k ← read_line 3 (keyword_line (codes "k") (number_in least_interval most_interval)) interval
  clients ← read_line 4 (keyword_line (codes "clients") (number_in 1 most_clients)) count
  secret ← read_line 5 (keyword_line (codes "secret") digest_of) key
  faulty ← read_line 6 (faulty_line f clients) names
  Ok (record { f = f; k = k; clients = clients; secret = secret; faulty = faulty })

-- the header of a text, of which these are the lines
abbrev pub header_of : List Bytes → Result HeaderContents ℕ
header_of lines =
    header_by (slice_get lines 0) (slice_get lines 1) (slice_get lines 2) (slice_get lines 3) (slice_get lines 4) (slice_get lines 5)

-- what a header that was read says
abbrev pub header_contents : Header → HeaderContents
header_contents h = record {
  f = max_faults h.shape;
  k = interval h.shape;
  clients = client_count h.shape;
  secret = h.secret;
  faulty = h.faulty;
}
