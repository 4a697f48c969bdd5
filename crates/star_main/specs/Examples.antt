-- Settings that examples name.
use Rattle.star_main.specs.declared.settings.Mode.TheVariants.{Serve}
use Rattle.star_main.specs.declared.settings.Settings.{Settings}

-- each option at its greatest number
abbrev pub greatest_settings : Settings
greatest_settings = record {
  mode = Serve;
  workers = 16;
  slots = 64;
  batch = 1024;
  seed = 9999999;
  rows = 1000000;
  port = 65535;
  accept = 9999999;
}
