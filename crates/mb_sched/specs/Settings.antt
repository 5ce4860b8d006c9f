-- The lines that configs and records begin with: a title, the three numbers of a shape, the secret, and the port.
use Rattle.std.specs.Prelude.{ℕ, slice_get, codes, List, [], ◌∷◌, ◌++◌, Option, Result, Ok}
use Rattle.std.specs.Fmt.{decimal}
use Rattle.hex.specs.Hex.{encode_lower}
use Rattle.mb_base.specs.Limits.{most_faults, least_interval, most_interval, most_clients}
use Rattle.mb_base.specs.Shapes.{Bytes, max_faults, interval, client_count}
use Rattle.mb_base.specs.declared.shape.Shape.{Shape}
use Rattle.mb_sched.specs.declared.settings.Settings.{Settings}
use Rattle.mb_sched.specs.Words.{number_in, digest_of}
use Rattle.mb_sched.specs.Lines.{◌>>=◌, read_line}
use Rattle.mb_sched.specs.ScheduleText.{line_text}
use Rattle.mb_sched.specs.TextLines.{exact_line, keyword_line}

-- the lowest and the highest port that a config may name
abbrev pub least_port : ℕ
least_port = 1024

abbrev pub most_port : ℕ
most_port = 60000

-- what the lines behind the title say
pub record SettingsContents : Type 0 where
  pub f : ℕ
  pub k : ℕ
  pub clients : ℕ
  pub secret : Bytes
  pub port : ℕ

-- the settings of six lines, each of which may be missing; the first is the title
unfoldable pub settings_by : Bytes → Option Bytes → Option Bytes → Option Bytes → Option Bytes → Option Bytes → Option Bytes → Result SettingsContents ℕ
settings_by title first faults interval count key socket = do
  _ ← read_line 1 (exact_line title) first
  f ← read_line 2 (keyword_line (codes "f") (number_in 1 most_faults)) faults
  k ← read_line 3 (keyword_line (codes "k") (number_in least_interval most_interval)) interval
  clients ← read_line 4 (keyword_line (codes "clients") (number_in 1 most_clients)) count
  secret ← read_line 5 (keyword_line (codes "secret") digest_of) key
  port ← read_line 6 (keyword_line (codes "port") (number_in least_port most_port)) socket
  Ok (record { f = f; k = k; clients = clients; secret = secret; port = port })

-- the settings of a text with this title, of which these are the lines
abbrev pub settings_of : Bytes → List Bytes → Result SettingsContents ℕ
settings_of title lines =
    settings_by title (slice_get lines 0) (slice_get lines 1) (slice_get lines 2) (slice_get lines 3) (slice_get lines 4) (slice_get lines 5)

-- what settings that were read say
abbrev pub settings_contents : Settings → SettingsContents
settings_contents s = record {
  f = max_faults s.shape;
  k = interval s.shape;
  clients = client_count s.shape;
  secret = s.secret;
  port = s.port;
}

-- the five lines behind the title, as they are printed
abbrev pub settings_text : Shape → Bytes → ℕ → Bytes
settings_text shape secret port =
    line_text (codes "f" ∷ decimal (max_faults shape) ∷ [])
    ++ (line_text (codes "k" ∷ decimal (interval shape) ∷ [])
    ++ (line_text (codes "clients" ∷ decimal (client_count shape) ∷ [])
    ++ (line_text (codes "secret" ∷ encode_lower secret ∷ [])
    ++ line_text (codes "port" ∷ decimal port ∷ []))))
