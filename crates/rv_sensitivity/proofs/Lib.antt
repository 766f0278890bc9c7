mod LegalMachine
