-- What is done with the text of a config.
use Rattle.std.specs.Prelude.{◌≡◌, ℕ, ◌≤◌, ◌<◌, List, [], ◌∷◌, length, Result, Ok, Err}
use Rattle.mb_base.specs.Shapes.{Bytes}
use Rattle.mb_sched.specs.declared.configs.Config.{Config}
use Rattle.mb_sched.specs.Configs.{max_config, config_of, config_contents}
use Rattle.mb_edge.specs.Seen.{Device}
use Rattle.mb_answer.specs.Devices.{IsLow, Responds}
use Rattle.mb_answer.specs.Texts.{too_long_text, bad_line_text}

abbrev pub IsConfigText : Bytes → Config → Type 0
IsConfigText text c = (length text ≤ max_config) × (config_of text ≡ Ok (config_contents c))

-- what is answered to a text that is none
pub data RefusesConfig (text : Bytes) (status : ℕ) (out : Bytes) : Type 0 where
  too_long : max_config < length text → status ≡ 2 → out ≡ too_long_text → RefusesConfig text status out
  bad_line : (n : ℕ) → length text ≤ max_config → config_of text ≡ Err n → status ≡ 2 → out ≡ bad_line_text n → RefusesConfig text status out

-- There is no config: the text is refused, or reading it fails, or memory runs out before it is used.
abbrev pub LacksConfig : Bytes → ℕ → Device → Device → Device → Device → Type 0
LacksConfig text status source source' sink sink' = Responds (RefusesConfig text) status source source' sink sink'

-- the config that a text gives, or the status where there is none
abbrev pub FindsConfig : Bytes → Result Config ℕ → Device → Device → Device → Device → Type 0
FindsConfig text (Ok c) source source' sink sink' = IsConfigText text c × (sink ≡ sink')
FindsConfig text (Err status) source source' sink sink' = LacksConfig text status source source' sink sink'

-- The config of a text is used so; or there is none, and the rest is idle.
pub data Uses (text : Bytes) (uses : Config → Type 0) (idle : Type 0) (status : ℕ) (source source' sink sink' : Device) : Type 0 where
  used : (c : Config) → IsConfigText text c → uses c → Uses text uses idle status source source' sink sink'
  unused : LacksConfig text status source source' sink sink' → idle → Uses text uses idle status source source' sink sink'

-- the statuses where there is no config
abbrev pub IsLack : ℕ → Type 0
IsLack status = IsLow status × ¬ (status ≡ 0)

abbrev pub lack_statuses : List ℕ
lack_statuses = 2 ∷ 4 ∷ 5 ∷ 6 ∷ []
