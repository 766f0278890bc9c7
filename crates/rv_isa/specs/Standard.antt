use Rattle.std.specs.Prelude.{true, false}
use Rattle.rv_isa.specs.declared.values.Values.{Values}
use Rattle.rv_isa.specs.declared.values.Recovery.TheVariants.{Commit}
use Rattle.rv_isa.specs.declared.values.PredictorKind.TheVariants.{Bimodal}

-- the values of a description that names no key
abbrev pub standard_values : Values
standard_values =
    record {
      ram_base = 0x8000_0000;
      ram_size = 65536;
      rom_bytes = 0;
      fetch_width = 2;
      dispatch_width = 2;
      commit_width = 2;
      bus_width = 2;
      fetch_buffer = 8;
      rob = 16;
      store_queue = 8;
      forward = 1;
      recovery = Commit;
      kinds =
          record {
            alu = record { stations = 4; units = 2; latency = 1; pipelined = true };
            mul = record { stations = 2; units = 1; latency = 3; pipelined = true };
            div = record { stations = 2; units = 1; latency = 16; pipelined = false };
            mem = record { stations = 4; units = 1; latency = 1; pipelined = true };
          };
      cache = record { sets = 16; ways = 2; line = 16; hit = 1; miss = 10; write_back = 10 };
      predictor = record { kind = Bimodal; entries = 64 };
      report = record { dump_address = 0; dump_words = 0 };
    }
