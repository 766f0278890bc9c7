mod Flags
mod Numbers
mod Parses
mod Subcommands
mod Texts
