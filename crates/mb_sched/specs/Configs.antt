-- What the text of a config says, and the text that a config is printed as.
use Rattle.std.specs.Prelude.{◌≡◌, ℕ, ◌≤◌, length, codes, List, [], ◌∷◌, ◌++◌, drop, Option, Result, Ok}
use Rattle.std.specs.List.{flat_map, AllByRecursion}
use Rattle.hex.specs.Hex.{IsBytes}
use Rattle.mb_base.specs.Limits.{text_limit}
use Rattle.mb_base.specs.Shapes.{Bytes, max_faults, interval, client_count}
use Rattle.mb_sched.specs.declared.configs.Config.{Config}
use Rattle.mb_sched.specs.Words.{operation_of}
use Rattle.mb_sched.specs.Lines.{lines, is_ended, ◌>>=◌}
use Rattle.mb_sched.specs.Printing.{hex_word}
use Rattle.mb_sched.specs.ScheduleText.{line_text}
use Rattle.mb_sched.specs.TextLines.{keyword_line, all_lines}
use Rattle.mb_sched.specs.Settings.{SettingsContents, settings_of, settings_text, least_port, most_port}

-- the most bytes that the text of a config may have
abbrev pub max_config : ℕ
max_config = 16777216

-- a config as its text says it
pub record ConfigContents : Type 0 where
  pub settings : SettingsContents
  pub ops : List Bytes

abbrev pub with_ops : SettingsContents → List Bytes → ConfigContents
with_ops settings ops = record { settings = settings; ops = ops }

-- `op HEX`, of at most 1,024 bytes
abbrev pub op_line : Bytes → Option Bytes
op_line line = keyword_line (codes "op") operation_of line

-- the config of a text, or the number of its first bad line: six lines of settings, and a line for each operation
unfoldable pub config_of : Bytes → Result ConfigContents ℕ
config_of text = do
  settings ← settings_of (codes "minbft config 2") (lines text)
  ops ← all_lines op_line (is_ended text) 7 (drop 6 (lines text))
  Ok (with_ops settings ops)

-- what a config's settings are
abbrev pub config_settings : Config → SettingsContents
config_settings c = record {
  f = max_faults c.shape;
  k = interval c.shape;
  clients = client_count c.shape;
  secret = c.secret;
  port = c.port;
}

-- what a config's text has to say
abbrev pub config_contents : Config → ConfigContents
config_contents c = with_ops (config_settings c) c.ops

-- ---- printing

abbrev pub op_text : Bytes → Bytes
op_text op = line_text (codes "op" ∷ hex_word op ∷ [])

unfoldable pub config_text : Config → Bytes
config_text c = codes "minbft config 2\n" ++ (settings_text c.shape c.secret c.port ++ flat_map op_text c.ops)

-- the secret has 32 bytes, and the port is 1,024 to 60,000
pub record SettingsFit (c : Config) : Type 0 where
  pub secret_length : length c.secret ≡ 32
  pub secret_bytes : IsBytes c.secret
  pub port : (least_port ≤ c.port) × (c.port ≤ most_port)

-- the config keeps the limits of the grammar: so do its settings, and each operation has at most 1,024 bytes
pub record ConfigFits (c : Config) : Type 0 where
  pub settings : SettingsFit c
  pub ops : AllByRecursion (λ (op : Bytes). (length op ≤ text_limit) × IsBytes op) c.ops
